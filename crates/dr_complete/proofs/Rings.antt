-- A ring keeps the pieces of each item that was put, until those of a later one stand in their place.
use Rattle.std.proofs.Common.{arith, inl, inr, length, subst, ℕ, ◌+◌, ◌<◌, ◌≤◌}
use Rattle.dr_entry.specs.declared.entry.Item.{Item}
use Rattle.dr_ring.specs.{Pieces.pieces, Slots.slot_column}
use Rattle.dr_words.specs.Packing.{ring_tag}
use Rattle.dr_machine.{specs.{Acts.{Guard, effect}, Run.IsReached, World.World}, proofs.{Groups.Stands, Runs.reached}}
use Rattle.dr_machine.specs.{Events.{member_of, step_of}, Group.{Group, IsGroup, roster}, declared.event.Event.Event}
use Rattle.dr_faithful.proofs.{Pasts.item_kept, Rings.step_stands}
use Rattle.dr_world_laws.proofs.Worlds.{Known, known, past_grew, words_grew}
use Rattle.dr_complete.specs.Reached.{RingsKeep}

-- ---- every run

-- what stands in a ring stays, or makes place for later items
event_keeps : (g : Group) (w : World) (e : Event) → IsGroup g → IsReached g w → Guard g w e
    → RingsKeep g w.past → RingsKeep g (effect g w e).past
event_keeps g w e is run can rings s v k part l below needed = by (step_stands g w (member_of e)
    (step_of e) s v k part is can (y.chosen.faithful.sent.all (member_of e) (w.past.view (member_of e))) below needed)
  where
    y : Known g w
    y = known g w is run

    column : ℕ
    column = slot_column (roster g) g.window k + part

    by : Stands g w (effect g w e) s v k part → k + 1 ≤ ring_tag ((effect g w e).past.own s v column)
    by (inr now) = now
    by (inl before) =
        let same = item_kept g w.past.sent (effect g w e).past.sent s v k
        ((past_grew g w e is y can).sent s v) before in
        let old = rings s v k part l before (subst (λ (x : Item). part < length (pieces x)) same needed) in
        omega (arith, old, ((words_grew g w e is y can).own s v column).number)

-- rings keep their items in every world that is reached: words that arrive change no ring of an owner
pub rings_keep : (g : Group) (w : World) → IsGroup g → IsReached g w → RingsKeep g w.past
rings_keep g w is r = reached g (λ u. RingsKeep g u.past) (λ u e run can rings. event_keeps g u e is run can rings)
    (λ u table rings. rings) (λ s v k part l below needed. absurd (omega (arith, below))) w r
