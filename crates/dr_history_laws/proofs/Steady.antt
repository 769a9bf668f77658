-- What stays when more is sent: the items and entries of places, the places of messages, and the order.
use Rattle.std.proofs.Common.{◌≡◌, refl, ap, sym, ◌∙◌, subst, ℕ, ◌/◌, ◌%◌, ◌<◌, arith, List, length, take, Option, None, Some, slice_get, is_some, option_and_then, IsSomeAnd}
use Rattle.std.proofs.lemmas.Option.{none-some}
use Rattle.dr_entry.specs.declared.{end.SentItem.SentItem, entry.Entry.{Entry, TheVariants.{View, Msg}}}
use Rattle.dr_entry.proofs.{ListPlaces.Contains-slice_get, OptionFacts.value_of}
use Rattle.dr_history.specs.History.{GroupView, Sent, view_of, entry_of, item_at, place_of_entry, place_at}
use Rattle.dr_history.specs.{Order.{InOrder, IsDelivered}, declared.opening.Opening.Opening}
use Rattle.dr_history.proofs.{Indices.{item_at-parts, item_at-of_parts}, Lists.slice_get-prefix, Places.place_in-more}
use Rattle.dr_history.proofs.ViewLemmas.{View_placed}
use Rattle.dr_history_laws.{specs.Laid.{laid, entry_at, HeldBelow, SentMoreIn, SentMore}, proofs.LaidLemmas.laid-same}

-- an item stays at its place
item_at-more : (sent now : Sent) (v : GroupView) (p : ℕ) (t : ℕ × SentItem)
    → SentMoreIn v sent now → item_at sent v p ≡ Some t → item_at now v p ≡ Some t
item_at-more sent now v p (s, item) more e =
    let parts = item_at-parts sent v p s item e in
    item_at-of_parts now v p s item parts.0 (slice_get-prefix (sent s v.number) (now s v.number)
    (p / length v.members) item (more s (Contains-slice_get v.members (p % length v.members) s parts.0)) parts.1)

-- and so places below which all held an item still do
pub HeldBelow-more : (sent now : Sent) (v : GroupView) (p : ℕ) → SentMoreIn v sent now
    → HeldBelow sent v p → HeldBelow now v p
HeldBelow-more sent now v p more held q l =
    let t = value_of (item_at sent v q) (held q l) in ap is_some (item_at-more sent now v q t.0 more t.1)

-- what was laid stays
pub laid-steady : (o : Opening) (sent now : Sent) (v : GroupView) (p : ℕ) → SentMoreIn v sent now → HeldBelow sent v p
    → laid o now v p ≡ laid o sent v p
laid-steady o sent now v p more held =
    laid-same o sent now v p (λ q l. same q (value_of (item_at sent v q) (held q l)))
  where
    same : (q : ℕ) → (t : ℕ × SentItem) × (item_at sent v q ≡ Some t) → entry_at o now v q ≡ entry_at o sent v q
    same q (t, e) = ap (option_and_then (λ u. entry_of o u.0 u.1)) (item_at-more sent now v q t more e ∙ sym e)

place_of_entry-more : (sent now : Sent) (v : Option GroupView) (e : Entry) (p : ℕ) → SentMore sent now
    → place_of_entry sent v e ≡ Some p → place_of_entry now v e ≡ Some p
place_of_entry-more sent now None e p more at = absurd (none-some p at)
place_of_entry-more sent now (Some v) (View a n m) p more at = absurd (none-some p at)
place_of_entry-more sent now (Some v) (Msg s i b) p more at = place_in-more sent now v s i p (more s v.number) at

place_at-more : (sent now : Sent) (h : List Entry) (i p : ℕ) → SentMore sent now → place_at sent h i ≡ Some p
    → place_at now h i ≡ Some p
place_at-more sent now h i p more at = by (slice_get h i) at
  where
    by : (z : Option Entry) → option_and_then (place_of_entry sent (view_of (take i h))) z ≡ Some p
        → option_and_then (place_of_entry now (view_of (take i h))) z ≡ Some p
    by None e = absurd (none-some p e)
    by (Some x) e = place_of_entry-more sent now (view_of (take i h)) x p more e

-- and no delivered message gets another one
place_at-less : (o : Opening) (sent now : Sent) (h : List Entry) (i p : ℕ) → SentMore sent now
    → InOrder o sent h → length o.start < i → place_at now h i ≡ Some p → place_at sent h i ≡ Some p
place_at-less o sent now h i p more order after at = by (slice_get h i) refl
  where
    by : (z : Option Entry) → slice_get h i ≡ z → place_at sent h i ≡ Some p
    by None e = let none : place_at now h i ≡ None = rw e refl in absurd (none-some p (sym none ∙ at))
    by (Some (View a n m)) e =
        let none : place_of_entry now (view_of (take i h)) (View a n m) ≡ Some p = ap
        (option_and_then (place_of_entry now (view_of (take i h)))) (sym e) ∙ at in
        absurd (View_placed now (view_of (take i h)) a n m p none)
    by (Some (Msg s index b)) e =
        let old = value_of (place_at sent h i) (order.placed i s index b after e) in
        old.1 ∙ (sym (place_at-more sent now h i old.0 more old.1) ∙ at)

delivered-more : (sent now : Sent) (v : GroupView) (h : List Entry) (q : ℕ) → SentMore sent now
    → IsSomeAnd (item_at sent v q) (λ t. IsDelivered h t.0 t.1)
    → IsSomeAnd (item_at now v q) (λ t. IsDelivered h t.0 t.1)
delivered-more sent now v h q more d = by (item_at sent v q) refl d
  where
    by : (z : Option (ℕ × SentItem)) → item_at sent v q ≡ z → IsSomeAnd z (λ t. IsDelivered h t.0 t.1)
        → IsSomeAnd (item_at now v q) (λ t. IsDelivered h t.0 t.1)
    by None e f = absurd f
    by (Some t) e f = subst (λ (z : Option (ℕ × SentItem)). IsSomeAnd z (λ u. IsDelivered h u.0 u.1))
        (sym (item_at-more sent now v q t (λ s _. more s v.number) e)) f

-- a history in order stays in order
pub InOrder-steady : (o : Opening) (sent now : Sent) (h : List Entry) → SentMore sent now
    → InOrder o sent h → InOrder o now h
InOrder-steady o sent now h more order = record {
  begins = order.begins;
  views = order.views;
  placed = λ i s index b after at. let old = value_of (place_at sent h i) (order.placed i s index b after at) in
      ap is_some (place_at-more sent now h i old.0 more old.1);
  rising = λ i j p q after less same at_i at_j. order.rising i j p q after less same
      (place_at-less o sent now h i p more order after at_i)
      (place_at-less o sent now h j q more order (omega (arith, after, less)) at_j);
  numbered = order.numbered;
  whole = λ i p q v after before last at less. delivered-more sent now v h q more
      (order.whole i p q v after before last (place_at-less o sent now h i p more order after at) less);
}
