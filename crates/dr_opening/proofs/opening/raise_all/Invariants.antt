use Rattle.dr_opening.specs.Logs.{ComeBelow, GotStart}
use Rattle.dr_opening.proofs.opening.raise_all.Given as goal

abbrev pub invariant-loop-m : goal.invariant-loop-m
invariant-loop-m g l = ComeBelow (GotStart g.D.Disk.told g.D.Disk.faults l.start) l.fn.logs l.logs l.m
