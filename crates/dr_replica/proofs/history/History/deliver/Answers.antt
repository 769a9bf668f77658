use Rattle.std.proofs.Common.{refl, rules, arith}
use Rattle.dr_replica.proofs.Histories.{message_count, delivered_history}
use Rattle.dr_replica.proofs.history.History.deliver.Goals as goal

pub overflow_add-index : goal.overflow_add-index
overflow_add-index c =
    let count = message_count c.self.inside c.args.self.now c.args.sender c.from.result
    c.index-index.result.now c.self.view_is c.self.invariant c.requires.sender c.requires.room
    c.from.ensures c.index-index.ensures in
    omega (arith, count)

pub invariant_of-self : goal.invariant_of-self
invariant_of-self c =
    delivered_history c.self.inside _ c.args.self.now c.args.sender c.from-2.result c.index-index.result.now
    c.copy-bytes.result c.self.view_is c.self.invariant c.requires.sender c.requires.room
    c.from-2.ensures (search rules) refl c.push.ensures.capacity (search rules) refl
