use Rattle.dr_quorum.specs.{Comparing.AreAlongBelow, Handing.handed_by}
use Rattle.dr_quorum.proofs.comparing.first_apart.Given as goal

abbrev pub invariant-loop-m : goal.invariant-loop-m
invariant-loop-m l = AreAlongBelow (handed_by l.lists) l.age l.m l.entries
