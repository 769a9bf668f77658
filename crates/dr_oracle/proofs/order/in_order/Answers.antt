use Rattle.std.proofs.Common.{◌≡◌, Decides, List, length, inl, inr, ap}
use Rattle.dr_entry.{specs.declared.entry.Entry.Entry, proofs.BoolFacts.{refuted, both_decide, same_decides}}
use Rattle.dr_history.specs.History.{sent_of}
use Rattle.dr_oracle.proofs.Orders.{FrontParts, InOrder-from_parts, parts_from_InOrder}
use Rattle.dr_oracle.proofs.order.in_order.Goals.{Joined-views_are_in_order, then-views_are_in_order, else-views_are_in_order}
use Rattle.dr_oracle.proofs.order.in_order.Goals as goal

-- the first two tests decide the views and the places
front : (c : Joined-views_are_in_order) → Decides c.if-views_are_in_order.value (FrontParts c.args.opening.now
    (sent_of c.args.ends.now) c.args.history.now (length c.as_slice-start.result.now))
front c = both_decide c.views_are_in_order.result c.if-views_are_in_order.value c.views_are_in_order.ensures
    (elim c.if-views_are_in_order.branch [
      | then-views_are_in_order w ↦
          inl (w.if-views_are_in_order.true, same_decides _ _ w.value-is w.places_are_in_order.ensures)
      | else-views_are_in_order w ↦ inr (w.if-views_are_in_order.false, w.value-is)
    ])

-- and they are about what stands behind the start
start_is : (c : Joined-views_are_in_order) → length c.as_slice-start.result.now ≡ length c.args.opening.now.start
start_is c = ap (λ (xs : List Entry). length xs) c.as_slice-start.ensures

pub returns-then-places_are_in_order : goal.returns-then-places_are_in_order
returns-then-places_are_in_order c =
    let so_far = (goal.at.returns-then-places_are_in_order c).Joined-views_are_in_order in (
      λ t. InOrder-from_parts c.args.opening.now (sent_of c.args.ends.now) c.args.history.now _
          (start_is so_far) ((front so_far).0 c.if-places_are_in_order.true, c.messages_are_whole.ensures.0 t),
      λ f. c.messages_are_whole.ensures.1 (parts_from_InOrder c.args.opening.now (sent_of c.args.ends.now)
          c.args.history.now _ (start_is so_far) f).1,
    )

pub returns-else-places_are_in_order : goal.returns-else-places_are_in_order
returns-else-places_are_in_order c =
    let so_far = (goal.at.returns-else-places_are_in_order c).Joined-views_are_in_order in (
      λ t. absurd (cc (t, c.if-places_are_in_order.false)),
      λ f. absurd (refuted c.if-views_are_in_order.value (front so_far) c.if-places_are_in_order.false
          (parts_from_InOrder c.args.opening.now (sent_of c.args.ends.now) c.args.history.now _
          (start_is so_far) f).0),
    )
