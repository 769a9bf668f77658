-- A member that has seen a sender's ring as it stands, and finds no item ready, has all that was put.
use Rattle.std.proofs.Common.{ap, arith, inl, inr, length, refl, sym, ℕ, ◌%◌, ◌+◌, ◌<◌, ◌∙◌, ◌≡◌, ◌≤◌, ◌⊎◌}
use Rattle.std.proofs.lemmas.{Bool.cases_lt, Nat.mod_below}
use Rattle.dr_history.specs.Members.{has}
use Rattle.dr_ring.{specs.Slots.IsReady, proofs.Items.{few_pieces, ready, AreOf}}
use Rattle.dr_words.specs.Packing.{ring_tag}
use Rattle.dr_machine.specs.{Group.{Group, IsGroup, roster}, Guards.{IsInView, IsOther, seen_slot}, Run.IsReached}
use Rattle.dr_machine.specs.World.{World, items_received}
use Rattle.dr_faithful.specs.{Chosen.views_by, Faithful.Faithful, Tells.{item_sent, part_column}}
use Rattle.dr_faithful.proofs.Pieces.{piece_of, sent_item}
use Rattle.dr_world_laws.proofs.Worlds.{Known, known, no_later}
use Rattle.dr_complete.{specs.Reached.SeesSlot, proofs.Rings.rings_keep}

-- where the next item was put, a member that sees its slot as it stands sees its pieces there
sees_pieces : (g : Group) (w : World) (m s : ℕ) → IsGroup g → IsReached g w → IsInView w m
    → IsOther w m s → SeesSlot g w m s → items_received w m s < length (w.past.sent s (w.past.view m))
    → AreOf (items_received w m s) (item_sent g w.past.sent s (w.past.view m) (items_received w m s))
    (seen_slot g w m s (items_received w m s))
sees_pieces g w m s is run inside other fresh below part needed = (
  tag,
  (piece_of g (length (w.past.sent s v)) (item_sent g w.past.sent s v) (k % g.window) part
      (seen_slot g w m s k part) k (λ i. sent_item g w.past.sent s v i is)
      ((f.words.seen m s (part_column g (k % g.window) part)).ring (k % g.window) part
      (mod_below k g.window is.some_slot) few refl) tag).1,
)
  where
    v : ℕ
    v = w.past.view m

    k : ℕ
    k = items_received w m s

    y : Known g w
    y = known g w is run

    f : Faithful g (views_by g y.values) w
    f = y.chosen.faithful

    sender : s < roster g
    sender = f.views.within v s (ap (λ mask. has mask s) (sym (f.views.own m)) ∙ other.member)

    few : part < 17
    few = omega (arith, needed, few_pieces (item_sent g w.past.sent s v k) (sent_item g w.past.sent s v k is))

    tag : ring_tag (seen_slot g w m s (items_received w m s) part) ≡ items_received w m s + 1
    tag = omega (
      arith,
      ap ring_tag (fresh part few),
      rings_keep g w is run s v k part sender below needed,
      (no_later g w is y m s part inside other few).1,
    )

-- so it has taken all of them
pub takes_all : (g : Group) (w : World) (m s : ℕ) → IsGroup g → IsReached g w → IsInView w m
    → IsOther w m s → SeesSlot g w m s → ¬ IsReady (items_received w m s) (seen_slot g w m s (items_received w m s))
    → items_received w m s ≡ w.past.count s (w.past.view m) s
takes_all g w m s is run inside other fresh none = by (cases_lt (items_received w m s) (length (w.past.sent s v)))
  where
    v : ℕ
    v = w.past.view m

    y : Known g w
    y = known g w is run

    f : Faithful g (views_by g y.values) w
    f = y.chosen.faithful

    by : (items_received w m s < length (w.past.sent s v)) ⊎ (length (w.past.sent s v) ≤ items_received w m s)
        → items_received w m s ≡ w.past.count s (w.past.view m) s
    by (inl below) = absurd (none (ready (items_received w m s) (item_sent g w.past.sent s v (items_received w m s))
        (seen_slot g w m s (items_received w m s)) (sent_item g w.past.sent s v (items_received w m s) is)
        (sees_pieces g w m s is run inside other fresh below)))
    by (inr all) = omega (arith, all, f.sent.all s v, f.items.counted m v s)
