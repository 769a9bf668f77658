use Rattle.std.proofs.Common.{◌≡◌, vec_len}
use Rattle.dr_bench.proofs.readies.readies.Given as goal

abbrev pub invariant-loop : goal.invariant-loop
invariant-loop l = vec_len l.received ≡ l.counter
