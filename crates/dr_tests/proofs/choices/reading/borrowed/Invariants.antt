use Rattle.std.proofs.Common.{◌≡◌, vec_len}
use Rattle.dr_tests.proofs.choices.reading.borrowed.Given as goal

abbrev pub invariant-loop-list : goal.invariant-loop-list
invariant-loop-list l = vec_len l.all ≡ l.list-index
