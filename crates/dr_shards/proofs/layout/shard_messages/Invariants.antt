use Rattle.std.{specs.Prelude.{map, slice_index_or, []}, proofs.Common.{◌≡◌}}
use Rattle.dr_shards.specs.Layout.{shard_members}
use Rattle.dr_shards.proofs.layout.shard_messages.Given as goal

abbrev pub invariant-loop-m : goal.invariant-loop-m
invariant-loop-m l = l.messages.items ≡ map (λ m. slice_index_or l.script.messages m [])
    (shard_members l.shards l.k l.m)
