use Rattle.std.proofs.Common.{ap, arith, length}
use Rattle.dr_member.specs.Deeds.{is_give}
use Rattle.dr_world.specs.Posts.{PostsOf}
use Rattle.dr_sim.proofs.deed.give.Goals as goal

pub take_list-letter-requires : goal.take_list-letter-requires
take_list-letter-requires c = (c.requires.lists.list _ c.requires.due).2

pub letter-requires-clause-room : goal.letter-requires-clause-room
letter-requires-clause-room c =
    let list = c.requires.lists.list _ c.requires.due in omega (arith, list.3, c.take_list-letter.ensures.room)

pub put-requires : goal.put-requires
put-requires c =
    let list = c.requires.lists.list _ c.requires.due in
    omega (arith, list.0, ap (λ (p : PostsOf). length p.letters) c.take_list-letter.ensures.left)

pub given-requires : goal.given-requires
given-requires c = ap is_give c.requires.due
