use Rattle.std.proofs.Common.{◌≡◌, take}
use Rattle.dr_commands.specs.ShardsLines.{shards_text}
use Rattle.dr_commands.proofs.shards.lines.shards_text.Given as goal

abbrev pub invariant-loop-k : goal.invariant-loop-k
invariant-loop-k l = l.text ≡ shards_text l.shards l.members (take l.k l.ages)
