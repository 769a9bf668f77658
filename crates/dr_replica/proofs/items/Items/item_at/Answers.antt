use Rattle.std.proofs.Common.{◌∙◌, arith}
use Rattle.dr_replica.proofs.Places.{item_number, item_place, item_read}
use Rattle.dr_replica.proofs.items.Items.item_at.Goals as goal

pub overflow_mul-spot : goal.overflow_mul-spot
overflow_mul-spot c =
    let there = item_place c.self.inside c.args.self.now c.args.spot.place c.args.spot.number c.from.result
    c.sender_at-sender.result c.self.view_is c.self.invariant c.requires.held
    (item_number c.self.inside c.args.self.now c.args.spot c.self.view_is c.requires.spot) c.from.ensures
    c.sender_at-sender.ensures.sender in
    omega (arith, there)

pub overflow_add-spot : goal.overflow_add-spot
overflow_add-spot c =
    let there = item_place c.self.inside c.args.self.now c.args.spot.place c.args.spot.number c.from.result
    c.from-2.result c.self.view_is c.self.invariant c.requires.held
    (item_number c.self.inside c.args.self.now c.args.spot c.self.view_is c.requires.spot) c.from.ensures
    (c.from-2.ensures ∙ c.sender_at-sender.ensures.sender) in
    omega (arith, there)

pub index-requires : goal.index-requires
index-requires c =
    let there = item_place c.self.inside c.args.self.now c.args.spot.place c.args.spot.number c.from.result
    c.from-2.result c.self.view_is c.self.invariant c.requires.held
    (item_number c.self.inside c.args.self.now c.args.spot c.self.view_is c.requires.spot) c.from.ensures
    (c.from-2.ensures ∙ c.sender_at-sender.ensures.sender) in
    omega (arith, there, c.self.inside.items.ok.0)

pub returns : goal.returns
returns c = item_read c.self.inside c.args.self.now c.args.spot.place c.args.spot.number c.from.result
    c.from-2.result c.index.result.now c.self.view_is c.self.invariant c.requires.held
    (item_number c.self.inside c.args.self.now c.args.spot c.self.view_is c.requires.spot) c.from.ensures
    (c.from-2.ensures ∙ c.sender_at-sender.ensures.sender) c.index.ensures
