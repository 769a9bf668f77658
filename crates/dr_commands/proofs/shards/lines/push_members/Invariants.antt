use Rattle.std.proofs.Common.{◌≡◌, ◌++◌, string_bytes}
use Rattle.dr_entry.proofs.ListFacts.{has_none}
use Rattle.dr_shards.{specs.Layout.shard_members, proofs.Counting.listed}
use Rattle.dr_commands.proofs.shards.lines.push_members.Given as goal

abbrev pub invariant-loop-member : goal.invariant-loop-member
invariant-loop-member l = (l.first ≡ has_none (shard_members l.shards l.k l.member))
    × (string_bytes l.out ≡ string_bytes l.initial.out ++ listed l.shards l.k l.member)
