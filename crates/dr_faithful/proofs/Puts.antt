-- A member puts its next message, or a null: the pieces stand in a free slot.
use Rattle.std.{specs.Prelude.{nat_lt, nat_le}, proofs.lemmas.Nat.mod_below}
use Rattle.std.proofs.Common.{List, [], ap, arith, inl, inr, le_of_eq, le_trans, length, map, refl, slice_index, slice_index_or, subst, sym, true, ℕ, ◌%◌, ◌++◌, ◌+◌, ◌-◌, ◌<◌, ◌∙◌, ◌∷◌, ◌≡◌, ◌≢◌, ◌≤◌, ◌⊎◌, ◌&&◌, if◌then◌else◌}
use Rattle.std.proofs.{Math.Seq.get_or-append_seam, lemmas.{Bool.{cases_lt, Decides.nat_tests}, List.length_push}}
use Rattle.dr_entry.specs.declared.{end.SentItem.{SentItem, TheVariants.{Index, Null}}, entry.Item.Item}
use Rattle.dr_entry.proofs.NumberFacts.{InItem, in_item}
use Rattle.dr_history.{specs.{History.messages_of, Members.has, Places.front_of}, proofs.Keeping.prefix_shorter}
use Rattle.dr_rows.specs.Words.{Words, own}
use Rattle.dr_machine.{specs.Effects.{puts, row_with}, proofs.Sending.{next_message, next_null, only_messages}}
use Rattle.dr_machine.specs.Group.{Group, IsGroup, IsPresent, roster}
use Rattle.dr_machine.specs.{Guards.{CanNull, CanSend, HasRoom, IsUnwedged, MayChoose, next_index}, Sending.IsPut}
use Rattle.dr_machine.specs.{Run.{PastGrew, WordsGrew}, World.{World, items_received, own_word, view_members}}
use Rattle.dr_machine.{specs.Writes.{at, at₂, at₃}, proofs.Writes.{at_same, at₂_both, at₂_case, at₂_read, at₂_twice}}
use Rattle.dr_machine.proofs.{Presence.in_roster, Worlds.{sent_after, row_in, row_out, sent_grew}}
use Rattle.dr_ring.{specs.{Pieces.pieces, Slots.{slot_column, with_pieces}}, proofs.Items.few_pieces}
use Rattle.dr_ring.proofs.Writes.{HasSlot, own_set, own_left}
use Rattle.dr_faithful.{specs.Faithful.{AreSent, Faithful, Numbers}, proofs.{Beside.in_view, Shown.seen_le}}
use Rattle.dr_faithful.{specs.Tells.{TellsPiece, Views, item_named, item_sent, part_column}, proofs.Pasts.item_kept}
use Rattle.dr_faithful.proofs.{CountMore.{more, new_count}, Pieces.{later, named_item, piece_le, sent_item}}
use Rattle.dr_faithful.proofs.ItemMore.{MayGain, accept_gained, counted_row, gain_grew, gain_keeps, gained, past_gained}
use Rattle.dr_words.specs.{Columns.{head_column, recv_column}, Packing.{recv_count, ring_word}}
use Rattle.dr_words.specs.declared.column.TheConstants.{PIECES}

-- ---- the row

-- two writes of own rows at one member
row_twice : (own : Numbers) (m v : ℕ) (row : ℕ → ℕ) (next : (ℕ → ℕ) → ℕ → ℕ)
    → at₂ (at₂ own m v row) m v (next (at₂ own m v row m v)) ≡ at₂ own m v (next row)
row_twice own m v row next = at₂_twice own m v row (next (at₂ own m v row m v))
    ∙ ap (λ r. at₂ own m v (next r)) (at₂_read own m v row)

-- ---- what is put

-- the row and the list of a member that puts the item of this name
abbrev put_row : Group → World → ℕ → SentItem → ℕ → ℕ
put_row g w m x = row_with (w.past.own m (w.past.view m)) (slot_column (roster g) g.window (items_received w m m))
    (items_received w m m) (pieces (item_named g m x))

-- m may put it next
pub record MayPut (g : Group) (w : World) (m : ℕ) (x : SentItem) : Type 0 where
  pub may : MayChoose g w m
  pub unwedged : IsUnwedged w m
  pub room : HasRoom g w m (items_received w m m)
  -- it follows what m has put
  pub order : IsPut (w.base m) (length (messages_of g.opening m)) (w.past.sent m (w.past.view m) ++ x ∷ [])
  -- and some member has more messages than m has items of its own
  pub few : (t : ℕ) × (items_received w m m < length (messages_of g.opening t))

-- a member that may send may put its next message
pub may_message : (g : Group) (V : Views) (w : World) (m : ℕ) → CanSend g w m → Faithful g V w
    → MayPut g w m (Index (next_index w m))
may_message g V w m can f =
    let items : List SentItem = w.past.sent m (w.past.view m) in
    let total : ℕ = length (messages_of g.opening m) in record {
      may = can.may;
      unwedged = can.unwedged;
      room = can.room;
      order = next_message (w.base m) total items (f.sent.put m) can.left;
      few = (
        m,
        omega (
          arith,
          can.left,
          only_messages (w.base m) total items (f.sent.put m) can.left,
          f.sent.all m (w.past.view m),
        ),
      );
    }

-- and one that may put a null may put it
pub may_null : (g : Group) (V : Views) (w : World) (m : ℕ) → CanNull g w m → Faithful g V w → MayPut g w m Null
may_null g V w m can f =
    let ahead = f.counts.few m (w.past.view m) can.behind.0 in record {
      may = can.may;
      unwedged = can.unwedged;
      room = can.room;
      order = next_null (w.base m) (length (messages_of g.opening m)) (w.past.sent m (w.past.view m))
          (f.sent.put m) can.none_left;
      few = (ahead.0, omega (arith, can.behind.1, ahead.1));
    }

puts_is : (g : Group) (w : World) (m : ℕ) (x : SentItem) → puts g w m x (item_named g m x)
    ≡ gained w m m (item_named g m x) (put_row g w m x) (sent_after w m x)
puts_is g w m x = ap (λ (own : Numbers). record w {
  past = record w.past { count = more w.past.count m (w.past.view m) m; own = own; sent = sent_after w m x };
  item = at₃ w.item m m (items_received w m m) (item_named g m x);
}) (row_twice w.past.own m (w.past.view m) (put_row g w m x)
    (λ row. counted_row row m (items_received w m m)
    (front_of (map (at (w.past.count m (w.past.view m)) m (items_received w m m + 1)) (view_members w m)))))

-- ---- what may be gained

-- the new element names the item
names_item : (g : Group) (V : Views) (w : World) (m : ℕ) (x : SentItem) (k : ℕ) → Faithful g V w
    → k ≡ items_received w m m → item_sent g (sent_after w m x) m (w.past.view m) k ≡ item_named g m x
names_item g V w m x k f e =
    let v : ℕ = w.past.view m in
    let before : List SentItem = w.past.sent m v in
    ap (λ (l : List SentItem). item_named g m (slice_index_or l k Null)) (at₂_read w.past.sent m v (before ++ x ∷ []))
    ∙ ap (λ i. item_named g m (slice_index_or (before ++ x ∷ []) i Null)) (e ∙ sym (f.sent.all m v))
    ∙ ap (item_named g m) (get_or-append_seam before x [] Null)

-- what each member has put is in order
put_order : (g : Group) (V : Views) (w : World) (m : ℕ) (x : SentItem) → MayPut g w m x → Faithful g V w
    → AreSent g w.past.view w.base (sent_after w m x) (more w.past.count m (w.past.view m) m)
put_order g V w m x can f = record {
  all = λ a u. at₂_both (λ i j l c. length l ≡ c i) w.past.sent w.past.count m v _ _ f.sent.all
      (length_push (w.past.sent m v) _ ∙ ap (λ k. k + 1) (f.sent.all m v)
      ∙ sym (at_same (w.past.count m v) m (items_received w m m + 1))) a u;
  put = λ a. at₂_case (λ i j l. j ≡ w.past.view i
      → IsPut (w.base i) (length (messages_of g.opening i)) l) w.past.sent m v _
      (λ i j e. subst (λ k. IsPut (w.base i) (length (messages_of g.opening i)) (w.past.sent i k)) (sym e)
      (f.sent.put i)) (λ e. can.order) a (w.past.view a) refl;
}
  where
    v : ℕ
    v = w.past.view m

-- where the words of the next item of m begin, and what they are
abbrev slot_from : Group → World → ℕ → ℕ
slot_from g w m = slot_column (roster g) g.window (items_received w m m)

few_words : (g : Group) (m : ℕ) (x : SentItem) → IsGroup g → length (pieces (item_named g m x)) ≤ PIECES
few_words g m x is = few_pieces (item_named g m x) (named_item g m x is)

-- the words of the row rise
put_high : (g : Group) (V : Views) (w : World) (m : ℕ) (x : SentItem) (c : ℕ) → IsGroup g → Faithful g V w
    → InItem (slot_from g w m) (length (pieces (item_named g m x))) c → own_word w m c ≤ put_row g w m x c
put_high g V w m x c is f (inr out) =
    le_of_eq (sym (row_out (w.past.own m (w.past.view m)) (slot_from g w m) (items_received w m m) c
    (pieces (item_named g m x)) out))
put_high g V w m x c is f (inl t) = subst (λ c. own_word w m c ≤ put_row g w m x c) t.2
    (rw (row_in (w.past.own m v) (slot_from g w m) k t.0 (pieces (item_named g m x)) t.1)
    (subst (λ n. own_word w m (slot_from g w m + t.0) ≤ ring_word n low) (f.sent.all m v) less))
  where
    v : ℕ
    v = w.past.view m

    k : ℕ
    k = items_received w m m

    low : ℕ
    low = slice_index (pieces (item_named g m x)) t.0

    told : TellsPiece g (length (w.past.sent m (w.past.view m))) (item_sent g w.past.sent m (w.past.view m))
        (items_received w m m % g.window) t.0 (own_word w m (slot_from g w m + t.0))
    told = (f.words.own m v (part_column g (k % g.window) t.0)).ring (k % g.window) t.0
        (mod_below k g.window is.some_slot) (le_trans t.1 (few_words g m x is)) refl

    less : own_word w m (slot_from g w m + t.0) ≤ ring_word (length (w.past.sent m (w.past.view m)))
        (slice_index (pieces (item_named g m x)) t.0)
    less = piece_le g (length (w.past.sent m v)) (item_sent g w.past.sent m v) (k % g.window) t.0
        (own_word w m (slot_from g w m + t.0)) low (λ i. sent_item g w.past.sent m v i is) told

-- and tell of what was put
put_ring : (g : Group) (V : Views) (w : World) (m : ℕ) (x : SentItem) (slot part : ℕ) → IsGroup g
    → MayPut g w m x → Faithful g V w → slot < g.window → part < PIECES
    → InItem (slot_from g w m) (length (pieces (item_named g m x))) (part_column g slot part)
    → TellsPiece g (length (sent_after w m x m (w.past.view m))) (item_sent g (sent_after w m x) m (w.past.view m))
    slot part (put_row g w m x (part_column g slot part))
put_ring g V w m x slot part is can f l p (inl t) =
    let k : ℕ = items_received w m m in
    let list : List ℕ = pieces (item_named g m x) in
    let in_slot = mod_below k g.window is.some_slot in
    let short = few_words g m x is in
    let here : part ≡ t.0 = omega (arith, t.1, t.2, short, in_slot, l, p) in
    let there : k % g.window ≡ slot = omega (arith, t.1, t.2, short, in_slot, l, p) in
    let named : item_sent g (sent_after w m x) m (w.past.view m) k
    ≡ item_named g m x = names_item g V w m x k f refl in
    inr (record {
      number = k;
      put = omega (
        arith,
        (put_order g V w m x can f).all m (w.past.view m),
        new_count w.past.count m (w.past.view m) m,
      );
      place = there;
      needed = subst (λ (i : Item). part < length (pieces i)) (sym named) (omega (arith, here, t.1));
      made = ap (put_row g w m x) (sym t.2) ∙ row_in (w.past.own m (w.past.view m)) (slot_from g w m) k t.0 list t.1
          ∙ ap (λ i. ring_word k (slice_index list i)) (sym here)
          ∙ ap (λ (i : Item). ring_word k (slice_index (pieces i) part)) (sym named);
    })
put_ring g V w m x slot part is can f l p (inr out) =
    let v : ℕ = w.past.view m in
    let c : ℕ = part_column g slot part in
    subst (λ z. TellsPiece g (length (sent_after w m x m v)) (item_sent g (sent_after w m x) m v) slot part z)
    (sym (row_out (w.past.own m v) (slot_from g w m) (items_received w m m) c (pieces (item_named g m x)) out))
    (later g (length (w.past.sent m v)) (length (sent_after w m x m v)) (item_sent g w.past.sent m v)
    (item_sent g (sent_after w m x) m v) slot part (own_word w m c)
    (prefix_shorter (w.past.sent m v) (sent_after w m x m v) (sent_grew w m x m v))
    (λ i n. item_kept g w.past.sent (sent_after w m x) m v i (sent_grew w m x m v) n)
    ((f.words.own m v c).ring slot part l p refl))

-- no other member of the view is a window behind
put_room : (g : Group) (V : Views) (w : World) (m i : ℕ) → IsGroup g → IsPresent g m → Faithful g V w
    → has (V (w.past.view m)) i ≡ true → i ≢ m → HasRoom g w m (items_received w m m)
    → items_received w m m + 1 ≤ w.past.count i (w.past.view m) m + g.window
put_room g V w m i is present f h d (inl early) = omega arith
put_room g V w m i is present f h d (inr received) =
    let column : ℕ = recv_column m in
    let shown : items_received w m m - g.window < recv_count (w.seen m i column) =
    received i (record { member = ap (λ n. has n i) (f.views.own m) ∙ h; other = d }) in
    let old : w.seen m i column ≤ w.past.own i (w.past.view m) column = seen_le g V w m i column f d in
    omega (arith, shown, old, f.counts.recv i (w.past.view m) m (in_roster g m is present))

-- so the member gains it
put_gains : (g : Group) (V : Views) (w : World) (m : ℕ) (x : SentItem) → IsGroup g → MayPut g w m x → Faithful g V w
    → MayGain g V w m m (item_named g m x) (put_row g w m x) (sent_after w m x)
put_gains g V w m x is can f =
    let from : ℕ = slot_from g w m in
    let list : List ℕ = pieces (item_named g m x) in
    let present = can.may.alive.present in record {
      inside = in_view g V w m f can.may.inside;
      unwedged = can.unwedged;
      sender = in_view g V w m f can.may.inside;
      source = inl (refl, λ i h d. put_room g V w m i is present f h d can.room);
      grew = sent_grew w m x;
      item = sym (names_item g V w m x (items_received w m m) f refl);
      few = can.few;
      low = λ c l. row_out (w.past.own m (w.past.view m)) from (items_received w m m) c list (inl (omega arith));
      high = λ c. put_high g V w m x c is f (in_item from (length list) c);
      ring = λ slot part l p. put_ring g V w m x slot part is can f l p
          (in_item from (length list) (part_column g slot part));
      order = put_order g V w m x can f;
    }

-- what only grows has grown
pub put_past : (g : Group) (V : Views) (w : World) (m : ℕ) (x : SentItem) → IsGroup g
    → MayPut g w m x → Faithful g V w → PastGrew w.past (puts g w m x (item_named g m x)).past
put_past g V w m x is can f = subst (λ (u : World). PastGrew w.past u.past) (sym (puts_is g w m x))
    (past_gained g V w m m (item_named g m x) (put_row g w m x) (sent_after w m x) (put_gains g V w m x is can f))

-- the words grow
pub put_grew : (g : Group) (V : Views) (w : World) (m : ℕ) (x : SentItem) → IsGroup g
    → MayPut g w m x → Faithful g V w → WordsGrew g w (puts g w m x (item_named g m x))
put_grew g V w m x is can f = subst (λ (u : World). WordsGrew g w u) (sym (puts_is g w m x))
    (gain_grew g V w m m (item_named g m x) (put_row g w m x) (sent_after w m x) is (put_gains g V w m x is can f) f)

-- no accept word is another than before
pub put_accepts : (g : Group) (V : Views) (w : World) (m : ℕ) (x : SentItem) → IsGroup g → MayPut g w m x
    → Faithful g V w → (i v c : ℕ) → (recv_column (roster g) ≤ c) × (c < head_column (roster g) 0)
    → (puts g w m x (item_named g m x)).past.own i v c ≡ w.past.own i v c
put_accepts g V w m x is can f i v c between = subst (λ (u : World). u.past.own i v c ≡ w.past.own i v c)
    (sym (puts_is g w m x)) (accept_gained g V w m m
    (item_named g m x) (put_row g w m x) (sent_after w m x) (put_gains g V w m x is can f) f i v c between)

-- and the members stay faithful
pub put_keeps : (g : Group) (V : Views) (w : World) (m : ℕ) (x : SentItem) → IsGroup g
    → MayPut g w m x → Faithful g V w → Faithful g V (puts g w m x (item_named g m x))
put_keeps g V w m x is can f = subst (λ (u : World). Faithful g V u) (sym (puts_is g w m x))
    (gain_keeps g V w m m (item_named g m x) (put_row g w m x) (sent_after w m x) is (put_gains g V w m x is can f) f)

-- the own words with the pieces of an item
pub own_pieces : (window : ℕ) (w : Words) (k : ℕ) (list : List ℕ) (c : ℕ) → HasSlot window w k → length list ≤ 17
    → own (with_pieces window w k list) c ≡ row_with (own w) (slot_column w.members window k) k list c
own_pieces window w k list c slot few = elim (cases_lt c (slot_column w.members window k)) [
  | inl before ↦ own_left window w k list c slot few (inl before) ∙ sym (outside (slot_column w.members window k) c
      (length list) (ring_word k (slice_index list (c - slot_column w.members window k))) (own w c) (inl before))
  | inr past ↦ elim (cases_lt c (slot_column w.members window k + length list)) [
    | inr behind ↦ own_left window w k list c slot few (inr behind) ∙ sym (outside (slot_column w.members window k) c
        (length list) (ring_word k (slice_index list (c - slot_column w.members window k))) (own w c) (inr behind))
    | inl within ↦
        let place : slot_column w.members window k + (c - slot_column w.members window k) ≡ c = omega (arith, past) in
        ap (λ d. own (with_pieces window w k list) d) (sym place)
        ∙ own_set window w k list (c - slot_column w.members window k) slot (omega (arith, past, within))
        ∙ sym (within_is (slot_column w.members window k) c (length list)
        (ring_word k (slice_index list (c - slot_column w.members window k))) (own w c) past within)
  ]
]
  where
    outside : (from c len x o : ℕ) → (c < from) ⊎ (from + len ≤ c)
        → (if nat_le from c && nat_lt c (from + len) then x else o) ≡ o
    outside from c len x o out = grind (arith, nat_tests, out)

    within_is : (from c len x o : ℕ) → from ≤ c → c < from + len
        → (if nat_le from c && nat_lt c (from + len) then x else o) ≡ x
    within_is from c len x o p q = grind (arith, nat_tests, p, q)
