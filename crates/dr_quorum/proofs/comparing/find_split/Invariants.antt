use Rattle.dr_quorum.{specs.Handing.handed_by, proofs.Holding.AreAllAlongBelow}
use Rattle.dr_quorum.proofs.comparing.find_split.Given as goal

abbrev pub invariant-loop-b : goal.invariant-loop-b
invariant-loop-b l = AreAllAlongBelow (handed_by l.lists) l.age l.b
