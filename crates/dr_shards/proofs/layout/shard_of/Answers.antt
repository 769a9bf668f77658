use Rattle.std.proofs.Common.{length, ap, arith}
use Rattle.dr_shards.proofs.Laying.{lists_few}
use Rattle.dr_shards.proofs.layout.shard_of.Goals as goal

pub overflow_cast-result : goal.overflow_cast-result
overflow_cast-result c = omega (
  arith,
  c.len.ensures,
  c.in_ok-messages.messages.ok.0,
  ap length c.in_ok-messages.ensures,
  lists_few c.args.script.now c.args.shards c.args.k,
  c.requires.ranges.group.most_members,
)
