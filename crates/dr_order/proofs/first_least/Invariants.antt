use Rattle.std.{specs.List.IsFirstBest, proofs.Common.nat_lt}
use Rattle.dr_order.proofs.first_least.Given as goal

abbrev pub invariant-loop-rank : goal.invariant-loop-rank
invariant-loop-rank l = IsFirstBest nat_lt l.counts l.rank l.least
