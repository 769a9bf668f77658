use Rattle.dr_bench.specs.Known.{IsUpTo}
use Rattle.dr_bench.proofs.looks.looks.Given as goal

abbrev pub invariant-loop-round : goal.invariant-loop-round
invariant-loop-round l = IsUpTo l.shape l.round l.rows
