use Rattle.std.proofs.Common.{arith}
use Rattle.dr_seat.proofs.Records.{no_other, of_member_placed, one_entry, one_vote}
use Rattle.dr_seat.proofs.book.append_to.Goals as goal

pub append-requires-clause-placed : goal.append-requires-clause-placed
append-requires-clause-placed c κs = of_member_placed c.args.log.now.content c.args.what.now c.requires.kind

pub append-requires-clause-spare_entry : goal.append-requires-clause-spare_entry
append-requires-clause-spare_entry c = omega (arith, one_entry c.args.what.now)

pub append-requires-clause-spare_vote : goal.append-requires-clause-spare_vote
append-requires-clause-spare_vote c = omega (arith, one_vote c.args.what.now)

pub append-requires-clause-spare_other : goal.append-requires-clause-spare_other
append-requires-clause-spare_other c = omega (arith, no_other c.args.what.now c.requires.kind)
