use Rattle.std.proofs.Common.{◌≡◌, All, vec_len}
use Rattle.dr_bench.specs.Known.{IsItem}
use Rattle.dr_bench.proofs.puts.long_items.Given as goal

abbrev pub invariant-loop-number : goal.invariant-loop-number
invariant-loop-number l = record { count : vec_len l.items ≡ l.number; items : All IsItem l.items.items }
