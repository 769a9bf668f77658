use Rattle.dr_bench.specs.Known.{HasPut}
use Rattle.dr_bench.proofs.puts.put_items.Given as goal

abbrev pub invariant-loop-k : goal.invariant-loop-k
invariant-loop-k l = HasPut l.shape l.k l.rows
