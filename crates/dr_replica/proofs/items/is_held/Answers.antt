use Rattle.std.proofs.Common.{rules}
use Rattle.dr_replica.proofs.Places.{held_read}
use Rattle.dr_replica.proofs.items.is_held.Goals as goal

pub returns : goal.returns
returns c = held_read c.args.counts.now c.args.members.now c.args.spot c.from.result c.from-2.result
    c.requires.spot (search rules) (search rules)
