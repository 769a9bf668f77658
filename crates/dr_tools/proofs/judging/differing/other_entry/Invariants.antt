use Rattle.dr_check.specs.Clauses.{HasSame}
use Rattle.dr_entry.proofs.ListFacts.{KeepBelow}
use Rattle.dr_tools.proofs.judging.differing.other_entry.Given as goal

abbrev pub invariant-loop-k : goal.invariant-loop-k
invariant-loop-k l = KeepBelow (λ i m. HasSame l.at l.entry m) l.age.members l.k
