use Rattle.dr_bench.specs.Known.{IsUpTo}
use Rattle.dr_bench.proofs.looks.look_and_push.Given as goal

abbrev pub invariant-loop-column : goal.invariant-loop-column
invariant-loop-column l = IsUpTo l.shape l.word l.rows

abbrev pub invariant-loop-other : goal.invariant-loop-other
invariant-loop-other l = IsUpTo l.shape l.word l.rows
