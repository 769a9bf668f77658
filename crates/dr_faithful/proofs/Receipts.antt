-- Receipts: the item that a member takes is the one that its sender has put.
use Rattle.std.{specs.Prelude.unwrap_or, proofs.lemmas.Nat.mod_below}
use Rattle.std.proofs.Common.{Some, ap, arith, inr, le_refl, le_trans, length, refl, slice_index, sym, ℕ, ◌%◌, ◌+◌, ◌<◌, ◌∙◌, ◌≡◌, ◌≤◌}
use Rattle.dr_entry.{specs.declared.entry.Item.{Item, TheVariants.Null}, proofs.Fields.IsItem}
use Rattle.dr_history.{specs.Members.has, proofs.Lists.prefix_refl}
use Rattle.dr_machine.specs.{Effects.{next_item, receives}, Guards.{CanReceive, seen_slot}, Run.{PastGrew, WordsGrew}}
use Rattle.dr_machine.specs.{Group.{Group, IsGroup, roster}, World.{World, items_received, own_word}}
use Rattle.dr_ring.{specs.{Pieces.pieces, Slots.item_in}, proofs.Arrivals.ready_item}
use Rattle.dr_faithful.{specs.Faithful.Faithful, proofs.CountMore.own_same}
use Rattle.dr_faithful.{specs.Tells.{Views, item_sent, part_column}, proofs.Pieces.{piece_of, sent_item}}
use Rattle.dr_faithful.proofs.{Beside.in_view, ItemMore.{MayGain, accept_gained, gain_grew, gain_keeps, past_gained}}
use Rattle.dr_words.specs.{Columns.{head_column, recv_column}, Packing.{ring_tag, ring_word}}

-- the words that were seen of the next item are pieces of it
receive_words : (g : Group) (V : Views) (w : World) (m s : ℕ) → IsGroup g → CanReceive g w m s → Faithful g V w
    → (items_received w m s < w.past.count s (w.past.view m) s)
    × (next_item g w m s ≡ item_sent g w.past.sent s (w.past.view m) (items_received w m s))
receive_words g V w m s is can f =
    (omega (arith, head.0, f.sent.all s (w.past.view m)), ap (λ o. unwrap_or o Null) found)
  where
    k : ℕ
    k = items_received w m s

    put : ℕ
    put = length (w.past.sent s (w.past.view m))

    items : ℕ → Item
    items = item_sent g w.past.sent s (w.past.view m)

    are : (i : ℕ) → IsItem (item_sent g w.past.sent s (w.past.view m) i)
    are i = sent_item g w.past.sent s (w.past.view m) i is

    slot : k % g.window < g.window
    slot = mod_below k g.window is.some_slot

    piece : (part : ℕ) → part < 17 → ring_tag (seen_slot g w m s k part) ≡ k + 1 → (k < put)
        × (seen_slot g w m s k part ≡ ring_word k (slice_index (pieces (items k)) part))
    piece part l tag = piece_of g put items (k % g.window) part (seen_slot g w m s k part) k are
        ((f.words.seen m s (part_column g (k % g.window) part)).ring (k % g.window) part slot l refl) tag

    head : (k < put) × (seen_slot g w m s k 0 ≡ ring_word k (slice_index (pieces (items k)) 0))
    head = piece 0 (omega arith) can.ready.head

    found : item_in k (seen_slot g w m s k) ≡ Some (items k)
    found = ready_item k (items k) (seen_slot g w m s k) (are k) can.ready (λ part l tag. (piece part l tag).1)

-- so it may have that item
receive_may : (g : Group) (V : Views) (w : World) (m s : ℕ) → IsGroup g → CanReceive g w m s → Faithful g V w
    → MayGain g V w m s (next_item g w m s) (w.past.own m (w.past.view m)) w.past.sent
receive_may g V w m s is can f =
    let taken = receive_words g V w m s is can f in
    let put = f.counts.few s (w.past.view m) s in
    record {
      inside = in_view g V w m f can.may.inside;
      unwedged = can.unwedged;
      sender = ap (λ k. has k s) (sym (f.views.own m)) ∙ can.sender.member;
      source = inr (can.sender.other, taken.0);
      grew = λ a u. prefix_refl (w.past.sent a u);
      item = taken.1;
      few = (put.0, le_trans taken.0 put.1);
      low = λ c l. refl;
      high = λ c. le_refl (own_word w m c);
      ring = λ slot part l p. (f.words.own m (w.past.view m) (part_column g slot part)).ring slot part l p refl;
      order = record {
        all = λ a v. f.sent.all a v ∙ sym (own_same w.past.count m (w.past.view m) s a v can.sender.other);
        put = f.sent.put;
      };
    }

-- what only grows has grown
pub receive_past : (g : Group) (V : Views) (w : World) (m s : ℕ) → IsGroup g → CanReceive g w m s
    → Faithful g V w → PastGrew w.past (receives g w m s).past
receive_past g V w m s is can f = past_gained g V w m s (next_item g w m s) (w.past.own m (w.past.view m)) w.past.sent
    (receive_may g V w m s is can f)

-- the words grow
pub receive_grew : (g : Group) (V : Views) (w : World) (m s : ℕ) → IsGroup g → CanReceive g w m s
    → Faithful g V w → WordsGrew g w (receives g w m s)
receive_grew g V w m s is can f = gain_grew g V w m s
    (next_item g w m s) (w.past.own m (w.past.view m)) w.past.sent is (receive_may g V w m s is can f) f

-- no accept word is another than before
pub receive_accepts : (g : Group) (V : Views) (w : World) (m s : ℕ) → IsGroup g → CanReceive g w m s
    → Faithful g V w → (i v c : ℕ) → (recv_column (roster g) ≤ c) × (c < head_column (roster g) 0)
    → (receives g w m s).past.own i v c ≡ w.past.own i v c
receive_accepts g V w m s is can f i v c between = accept_gained g V w m s
    (next_item g w m s) (w.past.own m (w.past.view m)) w.past.sent (receive_may g V w m s is can f) f i v c between

-- and the members stay faithful
pub receive_keeps : (g : Group) (V : Views) (w : World) (m s : ℕ) → IsGroup g → CanReceive g w m s
    → Faithful g V w → Faithful g V (receives g w m s)
receive_keeps g V w m s is can f = gain_keeps g V w m s
    (next_item g w m s) (w.past.own m (w.past.view m)) w.past.sent is (receive_may g V w m s is can f) f
