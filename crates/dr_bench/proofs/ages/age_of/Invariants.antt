use Rattle.std.proofs.Common.{◌≡◌, length}
use Rattle.dr_bench.proofs.ages.age_of.Given as goal

abbrev pub invariant-loop : goal.invariant-loop
invariant-loop l = length l.members.items ≡ l.counter
