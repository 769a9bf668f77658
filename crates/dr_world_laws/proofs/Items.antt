-- The places that a member has received hold sent items, each of which it has as it was sent.
use Rattle.std.proofs.Common.{Bool, ◌≡◌, false, refl, ap, ap₂, ◌∙◌, ℕ, ◌/◌, ◌%◌, ◌<◌, arith, true, List, [], ◌∷◌, length, map, slice_index, slice_index_or, None, Some, slice_get, option_to_list}
use Rattle.std.proofs.lemmas.Option.{get_or_from_slice_get, slice_get-get_or}
use Rattle.dr_entry.specs.declared.{end.SentItem.{SentItem, TheVariants.{Index, Null}}, entry.Entry.Entry}
use Rattle.dr_entry.specs.declared.entry.Entry.TheVariants.{Msg}
use Rattle.dr_history.specs.{History.{item_at, messages_of}, Members.{has, members_of}, Order.messages_from}
use Rattle.dr_history.proofs.{Fronts.front_held, Indices.item_at-of_parts, MemberLemmas.member-has}
use Rattle.dr_history.proofs.Places.{held_member}
use Rattle.dr_words.specs.declared.column.TheConstants.{RECEIVED_COLUMN}
use Rattle.dr_history_laws.{specs.Laid.{HeldBelow, entry_at}, proofs.SendingLemmas.HeldBelow-front}
use Rattle.dr_machine.specs.{Effects.{entries_of, sender_at}, Group.Group, World.{World, item_at_place, own_word}}
use Rattle.dr_faithful.specs.{Faithful.Faithful, Tells.{Views, item_named}}
use Rattle.dr_world_laws.specs.Historic.{view_numbered}

-- every place below the next one of a member holds a sent item
held-in : (g : Group) (V : Views) (w : World) (m : ℕ) → Faithful g V w → has (V (w.past.view m)) m ≡ true
    → HeldBelow w.past.sent (view_numbered g V (w.past.view m)) (w.next m)
held-in g V w m f here = HeldBelow-front w.past.sent (view_numbered g V v) (w.past.count m v) (w.next m) (λ s _. omega
    (arith, f.items.counted m v s, f.sent.all s v)) (omega (arith, f.delivered.held m m here, f.counts.received m v))
  where
    v : ℕ
    v = w.past.view m

pub held-next : (g : Group) (V : Views) (w : World) (m : ℕ) → Faithful g V w
    → HeldBelow w.past.sent (view_numbered g V (w.past.view m)) (w.next m)
held-next g V w m f = by (has (V (w.past.view m)) m) refl
  where
    by : (b : Bool) → has (V (w.past.view m)) m ≡ b
        → HeldBelow w.past.sent (view_numbered g V (w.past.view m)) (w.next m)
    by true here = held-in g V w m f here
    by false none = let zero = f.delivered.none m none in λ q less. absurd (omega (arith, zero, less))

-- the place p holds an item of s, and m has it as s put it
pub record IsReceived (g : Group) (V : Views) (w : World) (m p : ℕ) : Type 0 where
  pub sender : ℕ
  pub name : SentItem
  pub member : has (V (w.past.view m)) sender ≡ true
  pub place : item_at w.past.sent (view_numbered g V (w.past.view m)) p ≡ Some (sender, name)
  pub sent : sender_at w m p ≡ sender
  pub has_it : item_at_place w m p ≡ item_named g sender name

-- a place of whose member m has more items holds one that m has
pub item-here : (g : Group) (V : Views) (w : World) (m p : ℕ) → Faithful g V w
    → (s : ℕ) × (slice_get (members_of (V (w.past.view m))) (p % length (members_of (V (w.past.view m)))) ≡ Some s)
    × (p / length (members_of (V (w.past.view m))) < w.past.count m (w.past.view m) s) → IsReceived g V w m p
item-here g V w m p f at = record {
  sender = s;
  name = slice_index_or (w.past.sent s v) k Null;
  member = member-has (V v) (p % length ms) s at.1;
  place = item_at-of_parts w.past.sent (view_numbered g V v) p s _ at.1
      (slice_get-get_or (w.past.sent s v) k Null put);
  sent = ap (λ mask. slice_index (members_of mask) (p % length (members_of mask))) (f.views.own m) ∙ read;
  has_it = ap (λ mask. w.item m (slice_index (members_of mask) (p % length (members_of mask)))
      (p / length (members_of mask))) (f.views.own m) ∙ (ap (λ t. w.item m t k) read ∙ f.items.same m s k at.2);
}
  where
    v : ℕ
    v = w.past.view m

    ms : List ℕ
    ms = members_of (V v)

    s : ℕ
    s = at.0

    k : ℕ
    k = p / length ms

    read : slice_index ms (p % length ms) ≡ s
    read = get_or_from_slice_get ms (p % length ms) s 0 at.1

    put : k < length (w.past.sent s v)
    put = omega (arith, at.2, f.items.counted m v s, f.sent.all s v)

-- so does each place below its received word
pub item-received : (g : Group) (V : Views) (w : World) (m p : ℕ) → Faithful g V w → p
    < own_word w m RECEIVED_COLUMN → IsReceived g V w m p
item-received g V w m p f l =
    let v : ℕ = w.past.view m in
    item-here g V w m p f (held_member (w.past.count m v) (members_of (V v)) p
    (front_held (map (w.past.count m v) (members_of (V v))) p (omega (arith, l, f.counts.received m v))))

-- what it adds to a history is the entry of its place: nothing, where it is a null
pub entries-next : (g : Group) (V : Views) (w : World) (m p : ℕ) (history : List Entry) (s : ℕ) (name : SentItem)
    → item_at w.past.sent (view_numbered g V (w.past.view m)) p ≡ Some (s, name) → sender_at w m p ≡ s
    → item_at_place w m p ≡ item_named g s name → ((i : ℕ) → name ≡ Index i → (i ≡ length (messages_from s history))
    × (i < length (messages_of g.opening s))) → option_to_list (entry_at g.opening w.past.sent
    (view_numbered g V (w.past.view m)) p) ≡ entries_of history (sender_at w m p) (item_at_place w m p)
entries-next g V w m p history s Null place sent has_it next =
    let entry : entry_at g.opening w.past.sent (view_numbered g V (w.past.view m)) p ≡ None = rw place refl in
    let added : entries_of history (sender_at w m p) (item_at_place w m p)
    ≡ [] = ap₂ (λ s item. entries_of history s item) sent has_it in
    rw (entry, added) refl
entries-next g V w m p history s (Index i) place sent has_it next =
    let bytes : List ℕ = slice_index_or (messages_of g.opening s) i [] in
    let script : slice_get (messages_of g.opening s) i
    ≡ Some bytes = slice_get-get_or (messages_of g.opening s) i [] (next i refl).1 in
    let entry : entry_at g.opening w.past.sent (view_numbered g V (w.past.view m)) p
    ≡ Some (Msg s i bytes) = rw (place, script) refl in
    let added : entries_of history (sender_at w m p) (item_at_place w m p)
    ≡ Msg s (length (messages_from s history)) bytes ∷ [] = ap₂ (λ s item. entries_of history s item) sent has_it in
    rw (entry, added) (ap (λ i. Msg s i bytes ∷ []) (next i refl).0)
