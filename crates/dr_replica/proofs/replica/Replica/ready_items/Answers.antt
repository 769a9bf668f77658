use Rattle.std.{specs.Int.bit_at, proofs.Common.{◌≡◌, ℕ, ◌+◌, ◌<◌, ◌↔◌, subst}}
use Rattle.dr_program.specs.Replica.{Replica, count}
use Rattle.dr_ring.specs.Slots.{IsReady, slot_of}
use Rattle.dr_replica.specs.Inside.{replica_inside}
use Rattle.dr_replica.proofs.replica.Replica.ready_items.Goals as goal

pub returns-clause-set : goal.returns-clause-set
returns-clause-set c =
    let s = c.args.sender in
    let marks : Replica → ℕ → Type 0 = λ r k. (i : ℕ) → i < r.window
    → (bit_at c.sweep.result i ≡ 1) ↔ IsReady (k + i) (slot_of r.window r.rows s (k + i)) in
    subst (λ (r : Replica). marks r (count r s)) c.self.view_is
    (subst (marks (replica_inside c.self.inside)) c.count.ensures.count c.sweep.ensures.set)
