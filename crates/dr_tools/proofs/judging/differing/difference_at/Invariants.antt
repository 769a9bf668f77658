use Rattle.dr_entry.proofs.ListFacts.{KeepBelow}
use Rattle.dr_tools.specs.Differing.{AgeAgreesAt}
use Rattle.dr_tools.proofs.judging.differing.difference_at.Given as goal

abbrev pub invariant-loop-i : goal.invariant-loop-i
invariant-loop-i l = KeepBelow (λ i a. AgeAgreesAt l.line a) l.report.ages l.i
