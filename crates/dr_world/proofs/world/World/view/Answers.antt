use Rattle.std.proofs.Common.{◌∙◌, arith}
use Rattle.dr_world.proofs.world.World.view.Goals as goal

pub returns-in-Some-clause-bank : goal.returns-in-Some-clause-bank
returns-in-Some-clause-bank c =
    let there = c.replica.ensures.replica ∙ c.in-Some.is in
    let form = c.replica.ensures.members.form c.args.m c.in-Some.replica there in
    let of = c.replica.ensures.members.of c.args.m c.in-Some.replica there in
    omega (arith, form.bank, of.banks, c.view.ensures.view)
