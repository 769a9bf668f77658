use Rattle.std.proofs.Common.{◌↔◌, Option, IsSome, subst}
use Rattle.dr_entry.specs.declared.entry.Item.{Item}
use Rattle.dr_ring.{specs.Slots.{IsReady, slot_of}, proofs.Readiness.ready_test}
use Rattle.dr_ring.proofs.ring.ready.Goals as goal

pub returns-then-is_ready-clause-ready : goal.returns-then-is_ready-clause-ready
returns-then-is_ready-clause-ready c =
    let slot = slot_of c.args.shape.now.window c.args.rows.now c.args.row c.args.k in
    subst (λ (o : Option Item). IsSome o ↔ IsReady c.args.k slot) c.taken.ensures.item (ready_test c.args.k slot)
