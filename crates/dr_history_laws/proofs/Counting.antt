-- How many messages of a member are laid, and so the index of the message at the next place.
use Rattle.std.proofs.Common.{◌≡◌, refl, ap, sym, ◌∙◌, ◌⊎◌, inl, inr, ℕ, zero, suc, ◌+◌, ◌/◌, ◌%◌, arith, List, [], ◌∷◌, ◌++◌, length, take, Some, slice_get, length-append, None, Option, ◌<◌}
use Rattle.std.proofs.lemmas.{Bool.{cases_eq, ne_eqb}, Option.{none-some, slice_get_within, same_Some}}
use Rattle.dr_entry.specs.declared.{end.SentItem.{SentItem, TheVariants.{Null, Index}}, entry.Entry.TheVariants.Msg}
use Rattle.dr_entry.{specs.declared.entry.Entry.Entry, proofs.ListPlaces.{Contains-slice_get, slice_get-some}}
use Rattle.dr_entry.proofs.{ListFacts.AreDistinct, RankPlaces.{LieBelow, lie_none, lie_same, lie_next, lie_more}}
use Rattle.dr_history.specs.{History.{GroupView, Sent, messages_of, messages_in, item_at}, Order.messages_from}
use Rattle.dr_history.specs.declared.opening.Opening.{Opening}
use Rattle.dr_history.proofs.Indices.{messages_in-past, item_at-of_parts, messages_in-null, messages_in-message, item_at-parts}
use Rattle.dr_history.proofs.NumberedLemmas.{messages_from-append, messages_from-other, length-pushed}
use Rattle.dr_history_laws.specs.Laid.{laid, GoesOn}
use Rattle.dr_history_laws.proofs.LaidLemmas.{laid-none, laid-absent, laid-null, laid-message}

-- the bytes that the script has for a message at a place
pub bytes_at : (o : Opening) (sent : Sent) (h : List Entry) (v : GroupView) (p s i : ℕ) → GoesOn o sent h v
    → item_at sent v p ≡ Some (s, Index i) → (b : List ℕ) × (slice_get (messages_of o s) i ≡ Some b)
bytes_at o sent h v p s i goes e =
    let parts = item_at-parts sent v p s (Index i) e in
    slice_get-some (messages_of o s) i (goes.scripted s (p / length v.members) i
    (Contains-slice_get v.members (p % length v.members) s parts.0) parts.1)

-- below p lie k places of this rank, and so many messages of s were laid as its first k items have
abbrev pub Counted : Opening → Sent → GroupView → ℕ → ℕ → ℕ → Type 0
Counted o sent v rank s p = (k : ℕ) × LieBelow (length v.members) rank p k ×
    (length (messages_from s (laid o sent v p)) ≡ messages_in (take k (sent s v.number)))

-- a place of another rank
counted_other : (o : Opening) (sent : Sent) (h : List Entry) (v : GroupView) (rank s p t : ℕ)
    (item : SentItem) → GoesOn o sent h v → AreDistinct v.members → slice_get v.members rank ≡ Some s
    → item_at sent v p ≡ Some (t, item) → (p % length v.members ≡ rank → ⊥)
    → Counted o sent v rank s p → Counted o sent v rank s (suc p)
counted_other o sent h v rank s p t item goes distinct member e other c = (
  c.0,
  lie_same (length v.members) rank p c.0 (slice_get_within v.members rank s member) other c.1,
  ap length (by item e) ∙ c.2,
)
  where
    apart : (z : SentItem) → item_at sent v p ≡ Some (t, z) → t ≡ s → ⊥
    apart z f same = other (distinct (p % length v.members) rank s
        ((item_at-parts sent v p t z f).0 ∙ ap Some same) member)

    by : (z : SentItem) → item_at sent v p ≡ Some (t, z) → messages_from s (laid o sent v (suc p))
        ≡ messages_from s (laid o sent v p)
    by Null f = ap (messages_from s) (laid-null o sent v p t f)
    by (Index i) f =
        let b = bytes_at o sent h v p t i goes f in
        ap (messages_from s) (laid-message o sent v p t i b.0 f b.1) ∙
        messages_from-other s (laid o sent v p) t i b.0 (ne_eqb t s (apart (Index i) f))

-- a place of the member itself
counted_own : (o : Opening) (sent : Sent) (h : List Entry) (v : GroupView) (rank s p t : ℕ) (item : SentItem)
    → GoesOn o sent h v → slice_get v.members rank ≡ Some s → item_at sent v p ≡ Some (t, item)
    → p % length v.members ≡ rank → Counted o sent v rank s p → Counted o sent v rank s (suc p)
counted_own o sent h v rank s p t item goes member e same c = (
  suc c.0,
  lie_more (length v.members) rank p c.0 (slice_get_within v.members rank s member) same row c.1,
  by item e,
)
  where
    row : p / length v.members ≡ c.0
    row = lie_next (length v.members) rank p c.0 (slice_get_within v.members rank s member) same c.1

    same_sender : t ≡ s
    same_sender = same_Some t s (sym (item_at-parts sent v p t item e).0 ∙ (ap (slice_get v.members) same ∙ member))

    next : c.0 + 1 ≡ suc c.0
    next = omega arith

    at : (z : SentItem) → item_at sent v p ≡ Some (t, z) → slice_get (sent s v.number) c.0 ≡ Some z
    at z f = ap (λ u. slice_get (sent u v.number) c.0) (sym same_sender) ∙
        (ap (slice_get (sent t v.number)) (sym row) ∙ (item_at-parts sent v p t z f).1)

    by : (z : SentItem) → item_at sent v p ≡ Some (t, z) → length (messages_from s (laid o sent v (suc p)))
        ≡ messages_in (take (suc c.0) (sent s v.number))
    by Null f = ap (λ es. length (messages_from s es)) (laid-null o sent v p t f) ∙
        (c.2 ∙ (sym (messages_in-null (sent s v.number) c.0 (at Null f))
        ∙ ap (λ j. messages_in (take j (sent s v.number))) next))
    by (Index i) f =
        let b = bytes_at o sent h v p t i goes f in
        let is : laid o sent v (suc p) ≡ laid o sent v p ++ Msg s i b.0 ∷ [] = laid-message o sent v p t i b.0 f b.1 ∙
        ap (λ u. laid o sent v p ++ Msg u i b.0 ∷ []) same_sender in
        length-pushed s (laid o sent v p) (laid o sent v (suc p)) i b.0 is ∙
        (ap (λ j. j + 1) c.2 ∙ (sym (messages_in-message (sent s v.number) c.0 i (at (Index i) f)) ∙
        ap (λ j. messages_in (take j (sent s v.number))) next))

-- a place with no item
counted_absent : (o : Opening) (sent : Sent) (v : GroupView) (rank s p : ℕ) → slice_get v.members rank ≡ Some s
    → item_at sent v p ≡ None → Counted o sent v rank s p → Counted o sent v rank s (suc p)
counted_absent o sent v rank s p member none c = by (cases_eq (p % length v.members) rank)
  where
    within : rank < length v.members
    within = slice_get_within v.members rank s member

    same : length (messages_from s (laid o sent v (suc p))) ≡ messages_in (take c.0 (sent s v.number))
    same = ap (λ es. length (messages_from s es)) (laid-absent o sent v p none) ∙ c.2

    past : p % length v.members ≡ rank → slice_get (sent s v.number) (p / length v.members) ≡ None
    past e = at (slice_get (sent s v.number) (p / length v.members)) refl
      where
        at : (z : Option SentItem) → slice_get (sent s v.number) (p / length v.members) ≡ z
            → slice_get (sent s v.number) (p / length v.members) ≡ None
        at None f = f
        at (Some item) f = absurd (none-some (s, item)
            (sym none ∙ item_at-of_parts sent v p s item (ap (slice_get v.members) e ∙ member) f))

    by : (p % length v.members ≡ rank) ⊎ (p % length v.members ≡ rank → ⊥) → Counted o sent v rank s (suc p)
    by (inr other) = (c.0, lie_same (length v.members) rank p c.0 within other c.1, same)
    by (inl e) =
        let row : p / length v.members ≡ c.0 = lie_next (length v.members) rank p c.0 within e c.1 in
        let none_here : slice_get (sent s v.number) c.0
        ≡ None = ap (slice_get (sent s v.number)) (sym row) ∙ past e in (
          suc c.0,
          lie_more (length v.members) rank p c.0 within e row c.1,
          same ∙ sym (messages_in-past (sent s v.number) c.0 none_here),
        )

-- the messages of a member that are laid
pub counted : (o : Opening) (sent : Sent) (h : List Entry) (v : GroupView) (rank s p : ℕ)
    → GoesOn o sent h v → AreDistinct v.members → slice_get v.members rank ≡ Some s → Counted o sent v rank s p
counted o sent h v rank s zero goes distinct member = (
  0,
  lie_none (length v.members) rank (slice_get_within v.members rank s member),
  ap (λ es. length (messages_from s es)) (laid-none o sent v),
)
counted o sent h v rank s (suc p) goes distinct member = by (item_at sent v p) refl
    (cases_eq (p % length v.members) rank) (counted o sent h v rank s p goes distinct member)
  where
    by : (z : Option (ℕ × SentItem)) → item_at sent v p ≡ z → (p % length v.members ≡ rank)
        ⊎ (p % length v.members ≡ rank → ⊥) → Counted o sent v rank s p → Counted o sent v rank s (suc p)
    by None e which c = counted_absent o sent v rank s p member e c
    by (Some (t, item)) e (inl same) c = counted_own o sent h v rank s p t item goes member e same c
    by (Some (t, item)) e (inr other) c = counted_other o sent h v rank s p t item goes distinct member e other c

-- the message at the next place has the number of its sender's messages so far as its index
pub index-next : (o : Opening) (sent : Sent) (before : List Entry) (v : GroupView) (p s i : ℕ)
    → GoesOn o sent before v → AreDistinct v.members → item_at sent v p ≡ Some (s, Index i)
    → i ≡ length (messages_from s (before ++ laid o sent v p))
index-next o sent before v p s i goes distinct e =
    let rank = p % length v.members in
    let parts = item_at-parts sent v p s (Index i) e in
    let c = counted o sent before v rank s p goes distinct parts.0 in
    let row : p / length v.members ≡ c.0 = lie_next (length v.members) rank p c.0
    (slice_get_within v.members rank s parts.0) refl c.1 in
    let given : i ≡ length (messages_from s before) + messages_in (take (p / length v.members) (sent s v.number)) =
    goes.index s (p / length v.members) i (Contains-slice_get v.members rank s parts.0) parts.1 in
    given ∙ (ap (λ j. length (messages_from s before) + messages_in (take j (sent s v.number))) row ∙
    (ap (λ j. length (messages_from s before) + j) (sym c.2) ∙
    (sym (length-append (messages_from s before) (messages_from s (laid o sent v p))) ∙
    ap length (sym (messages_from-append s before (laid o sent v p))))))
