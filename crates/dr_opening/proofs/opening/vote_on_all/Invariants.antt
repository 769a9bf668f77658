use Rattle.dr_opening.specs.Logs.{ComeBelow, GotVote}
use Rattle.dr_opening.proofs.opening.vote_on_all.Given as goal

abbrev pub invariant-loop-m : goal.invariant-loop-m
invariant-loop-m g l = ComeBelow (GotVote g.D.Disk.told g.D.Disk.faults l.start) l.fn.logs l.logs l.m
