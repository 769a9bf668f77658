use Rattle.dr_entry.proofs.ListFacts.{KeepBelow}
use Rattle.dr_tools.specs.Differing.{AgreeAt}
use Rattle.dr_tools.proofs.judging.differing.difference_in.Given as goal

abbrev pub invariant-loop-n : goal.invariant-loop-n
invariant-loop-n l = KeepBelow (AgreeAt l.line l.age) l.age.members l.n
