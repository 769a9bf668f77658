use Rattle.std.proofs.Common.{arith}
use Rattle.dr_history.proofs.Places.{not_held_after}
use Rattle.dr_order.proofs.merge_next.Goals as goal

pub returns : goal.returns
returns c = not_held_after c.args.counts.now c.args.from c.saturating_add-end.result c.requires.some c.requires.few
    (λ rank. omega (arith, c.type_inv.counts rank)) (grind (arith, c.saturating_add-end.ensures))
    (λ p after below. c.loop-place.invariant p after (omega arith))
