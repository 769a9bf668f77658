use Rattle.std.proofs.Common.{◌++◌, [], arith}
use Rattle.dr_entry.proofs.ListFacts.{numbered_texts_more}
use Rattle.dr_commands.specs.ShardsLines.{shard_line}
use Rattle.dr_text.specs.Report.{age_text}
use Rattle.dr_commands.proofs.shards.lines.shards_text.Goals as goal

pub loop-k-preserved : goal.loop-k-preserved
loop-k-preserved c = numbered_texts_more (λ t. shard_line c.args.shards c.args.members t.0 ++ age_text t.1)
    c.args.ages.now c.loop-k.k c.index-ages-k.result [] c.loop-k.text c.push_shard.new.out (omega arith)
    c.index-ages-k.is c.loop-k.invariant c.in_ok-push_shard.ensures
