use Rattle.std.proofs.Common.{◌∙◌, arith}
use Rattle.dr_world.proofs.world.World.received.Goals as goal

pub count-requires : goal.count-requires
count-requires c =
    let of = c.replica.ensures.members.of c.args.m c.in-Some.replica (c.replica.ensures.replica ∙ c.in-Some.is) in
    omega (arith, c.requires.sender, of.members)
