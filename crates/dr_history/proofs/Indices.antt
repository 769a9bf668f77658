-- Messages among sent items, and the place that a message has by its index.
use Rattle.std.proofs.Common.{◌≡◌, ap, ◌∙◌, ◌+◌, List, ◌++◌, length, length-append, ◌⊎◌, inl, inr, sym, ℕ, ◌<◌, ◌≤◌, arith, take, slice_get, None, suc, [], ◌∷◌, Some, drop, take-append-drop, ◌/◌, ◌%◌, refl, ◌-◌, append-nil, zero}
use Rattle.std.proofs.lemmas.{Bool.cases_lt, List.{take_all, take-take, length_push, Elements.filter-append}}
use Rattle.std.proofs.lemmas.{List.Sums.{count_by-le-length, length-filter}, Option.none-some}
use Rattle.dr_entry.specs.declared.end.SentItem.{SentItem, TheVariants.{Null, Index}}
use Rattle.dr_entry.proofs.{ListPlaces.{slice_get-some, take-next}, OptionFacts.pair-parts}
use Rattle.dr_history.specs.History.{messages_in, GroupView, Sent, item_at}

-- the messages of two lists of items
messages_in-append : (xs ys : List SentItem) → messages_in (xs ++ ys) ≡ messages_in xs + messages_in ys
messages_in-append xs ys = ap length (filter-append _ xs ys) ∙ length-append _ _

-- past the last item there are no more messages
pub messages_in-past : (xs : List SentItem) (k : ℕ) → slice_get xs k ≡ None
    → messages_in (take (suc k) xs) ≡ messages_in (take k xs)
messages_in-past xs k none = ap messages_in (take_all (suc k) xs (omega (arith, past)) ∙ sym (take_all k xs past))
  where
    past : length xs ≤ k
    past = by (cases_lt k (length xs))
      where
        by : (k < length xs) ⊎ (length xs ≤ k) → length xs ≤ k
        by (inl l) = let x = slice_get-some xs k l in absurd (none-some x.0 (sym none ∙ x.1))
        by (inr l) = l

-- a null more is no message more
pub messages_in-null : (xs : List SentItem) (k : ℕ) → slice_get xs k ≡ Some Null
    → messages_in (take (k + 1) xs) ≡ messages_in (take k xs)
messages_in-null xs k e = ap messages_in (take-next xs k Null e) ∙
    (messages_in-append (take k xs) (Null ∷ []) ∙ let none : messages_in (take k xs) + 0
    ≡ messages_in (take k xs) = omega arith in none)

-- a message more is one more
pub messages_in-message : (xs : List SentItem) (k i : ℕ) → slice_get xs k ≡ Some (Index i)
    → messages_in (take (k + 1) xs) ≡ messages_in (take k xs) + 1
messages_in-message xs k i e = ap messages_in (take-next xs k (Index i) e)
    ∙ messages_in-append (take k xs) (Index i ∷ [])

-- more items have no fewer messages
pub messages_in-le : (xs : List SentItem) (j k : ℕ) → j ≤ k → messages_in (take j xs) ≤ messages_in (take k xs)
messages_in-le xs j k l = omega (
  arith,
  ap messages_in (take-append-drop j (take k xs)),
  ap messages_in (take-take j k xs l),
  messages_in-append (take j (take k xs)) (drop j (take k xs)),
)

-- the sender and its item at a place
pub item_at-parts : (sent : Sent) (v : GroupView) (p s : ℕ) (item : SentItem) → item_at sent v p ≡ Some (s, item)
    → (slice_get v.members (p % length v.members) ≡ Some s)
    × (slice_get (sent s v.number) (p / length v.members) ≡ Some item)
item_at-parts sent v p s item e = pair-parts (λ t. slice_get (sent t v.number) (p / length v.members))
    (slice_get v.members (p % length v.members)) s item e

-- the item at a place is the one that the member of its rank sent under its number
pub item_at-of_parts : (sent : Sent) (v : GroupView) (p s : ℕ) (item : SentItem)
    → slice_get v.members (p % length v.members) ≡ Some s
    → slice_get (sent s v.number) (p / length v.members) ≡ Some item → item_at sent v p ≡ Some (s, item)
item_at-of_parts sent v p s item member got = rw (member, got) refl

pub messages_next : (items : List SentItem) (i : ℕ) → messages_in (items ++ Index i ∷ []) ≡ messages_in items + 1
messages_next items i = rw (filter-append _ items (Index i ∷ [])) (length_push _ _)

-- a null is no message
pub messages_null : (items : List SentItem) → messages_in (items ++ Null ∷ []) ≡ messages_in items
messages_null items = rw (filter-append _ items (Null ∷ [])) (ap length (append-nil _))

-- no more of the items are messages than there are
pub messages_within : (items : List SentItem) → messages_in items ≤ length items
messages_within items = rw (length-filter _ items) (count_by-le-length _ items)

-- where the first so many items are messages, they have so many
pub first_messages : (items : List SentItem) (c : ℕ)
    → ((k : ℕ) → k < c → (i : ℕ) × (slice_get items k ≡ Some (Index i))) → messages_in (take c items) ≡ c
first_messages items zero each = refl
first_messages items (suc c) each =
    let last = each c (omega arith) in
    let next : suc c ≡ c + 1 = omega arith in
    ap (λ k. messages_in (take k items)) next ∙ messages_in-message items c last.0 last.1
    ∙ ap (λ k. k + 1) (first_messages items c (λ k l. each k (omega (arith, l)))) ∙ sym next

-- no more are among the first items than among all
pub first-few : (items : List SentItem) (k : ℕ) → messages_in (take k items) ≤ messages_in items
first-few items k =
    let all = take_all (length items + k) items (omega arith) in
    omega (arith, messages_in-le items k (length items + k) (omega arith), ap messages_in all)
