use Rattle.std.{specs.{List.range_with_len, Prelude.map}, proofs.Common.{◌≡◌}}
use Rattle.dr_shards.specs.Layout.{shard_of}
use Rattle.dr_shards.proofs.layout.shards_of.Given as goal

abbrev pub invariant-loop-k : goal.invariant-loop-k
invariant-loop-k l = l.scripts.items ≡ map (shard_of l.script l.shards) (range_with_len 0 l.k)
