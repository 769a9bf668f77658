use Rattle.std.proofs.Common.{◌≡◌, vec_len}
use Rattle.dr_tests.proofs.choices.reading.lists_of.Given as goal

abbrev pub invariant-loop-m : goal.invariant-loop-m
invariant-loop-m l = vec_len l.lists ≡ l.m
