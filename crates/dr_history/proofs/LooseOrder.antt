-- Histories in order, and those whose last view may have gaps.
use Rattle.std.proofs.Common.{◌≡◌, ap, ℕ, ◌≤◌, List, ◌++◌, length, take, refl, ◌<◌, arith, Some, slice_get, IsSome, IsSomeAnd, ◌+◌, sym, ◌⊎◌, inl, inr, subst, suc, Option}
use Rattle.std.proofs.lemmas.List.{take-append-le, Elements.Contains-append_left}
use Rattle.dr_entry.specs.declared.{end.SentItem.{SentItem, TheVariants.{Null, Index}}, entry.Entry.Entry}
use Rattle.dr_entry.{specs.declared.entry.Entry.TheVariants.{View, Msg}, proofs.ListPlaces.slice_get-left}
use Rattle.dr_entry.proofs.OptionFacts.{IsSomeAnd-more, last_or_below}
use Rattle.dr_history.specs.History.{view_of, Sent, place_at, IsPrefixOf, GroupView, item_at}
use Rattle.dr_history.specs.Order.{IsSucceededBy, first_entries, messages_from, numbered_messages, IsDelivered, InOrder}
use Rattle.dr_history.{specs.declared.opening.Opening.Opening, proofs.Pushing.PlacedBelow}

-- the view before an entry and its place are what they were, with more behind
pub view_of-left : (h more : List Entry) (i : ℕ) → i ≤ length h → view_of (take i (h ++ more)) ≡ view_of (take i h)
view_of-left h more i l = ap view_of (take-append-le i h more l)

-- entries behind leave the place of each entry before them
pub place_at-left : (sent : Sent) (h more : List Entry) (i : ℕ) → i < length h
    → place_at sent (h ++ more) i ≡ place_at sent h i
place_at-left sent h more i l = rw (take-append-le i h more (omega arith), slice_get-left h more i l) refl

-- a history is in order, but places of its last view may have been passed over
pub record InLooseOrder (o : Opening) (sent : Sent) (h : List Entry) : Type 0 where
  pub begins : IsPrefixOf (first_entries o) h
  pub views : (i age number members : ℕ) → length o.start < i → slice_get h i ≡ Some (View age number members)
      → IsSomeAnd (view_of (take i h)) (λ v. IsSucceededBy o (take i h) v age number members)
  pub placed : (i s index : ℕ) (b : List ℕ) → length o.start < i → slice_get h i ≡ Some (Msg s index b)
      → IsSome (place_at sent h i)
  pub rising : (i j p q : ℕ) → length o.start < i → i < j → view_of (take i h) ≡ view_of (take j h)
      → place_at sent h i ≡ Some p → place_at sent h j ≡ Some q → p < q
  pub numbered : (s : ℕ) → IsPrefixOf (messages_from s h) (numbered_messages o s)

-- what is wanted besides
abbrev pub LastViewWhole : Opening → Sent → List Entry → Type 0
LastViewWhole o sent h = (i p q : ℕ) (v : GroupView) → length o.start < i → view_of (take i h)
    ≡ Some v → view_of h ≡ Some v
    → place_at sent h i ≡ Some p → q < p → IsSomeAnd (item_at sent v q) (λ t. IsDelivered h t.0 t.1)

-- a history in order is in loose order
pub InLooseOrder-from : (o : Opening) (sent : Sent) (h : List Entry) → InOrder o sent h → InLooseOrder o sent h
InLooseOrder-from o sent h order = record {
  begins = order.begins;
  views = order.views;
  placed = order.placed;
  rising = order.rising;
  numbered = order.numbered;
}

-- a history in loose order whose last view is whole is in order
pub InOrder-from : (o : Opening) (sent : Sent) (h : List Entry) → InLooseOrder o sent h
    → LastViewWhole o sent h → InOrder o sent h
InOrder-from o sent h order whole = record {
  begins = order.begins;
  views = order.views;
  placed = order.placed;
  rising = order.rising;
  numbered = order.numbered;
  whole = whole;
}

-- what was delivered stays so
IsDelivered-more : (h more : List Entry) (s : ℕ) (item : SentItem) → IsDelivered h s item
    → IsDelivered (h ++ more) s item
IsDelivered-more h more s Null d = tt
IsDelivered-more h more s (Index i) d = (d.0, Contains-append_left h more (Msg s i d.0) d.1)

-- every place of the view below p holds an item that was delivered
abbrev pub DeliveredBelow : Sent → GroupView → List Entry → ℕ → Type 0
DeliveredBelow sent v h p = (q : ℕ) → q < p → IsSomeAnd (item_at sent v q) (λ t. IsDelivered h t.0 t.1)

pub DeliveredBelow-more : (sent : Sent) (v : GroupView) (h more : List Entry) (p : ℕ) → DeliveredBelow sent v h p
    → DeliveredBelow sent v (h ++ more) p
DeliveredBelow-more sent v h more p all q l = IsSomeAnd-more (item_at sent v q) (λ t. IsDelivered h t.0 t.1)
    (λ t. IsDelivered (h ++ more) t.0 t.1) (λ t. IsDelivered-more h more t.0 t.1) (all q l)

-- a history in a view has come to place p of it
pub record HasReached (o : Opening) (sent : Sent) (v : GroupView) (h : List Entry) (p : ℕ) : Type 0 where
  pub ordered : InLooseOrder o sent h
  pub view : view_of h ≡ Some v
  pub below : PlacedBelow o sent v h p

pub delivered_next : (sent : Sent) (v : GroupView) (h : List Entry) (p s : ℕ) (item : SentItem)
    → DeliveredBelow sent v h p
    → item_at sent v p ≡ Some (s, item) → IsDelivered h s item → DeliveredBelow sent v h (suc p)
delivered_next sent v h p s item all e d q l = by (last_or_below p q l)
  where
    here : IsSomeAnd (item_at sent v p) (λ t. IsDelivered h t.0 t.1)
    here = subst (λ (z : Option (ℕ × SentItem)). IsSomeAnd z (λ t. IsDelivered h t.0 t.1)) (sym e) d

    by : (q < p) ⊎ (q ≡ p) → IsSomeAnd (item_at sent v q) (λ t. IsDelivered h t.0 t.1)
    by (inl less) = all q less
    by (inr is) = subst (λ j. IsSomeAnd (item_at sent v j) (λ t. IsDelivered h t.0 t.1)) (sym is) here

-- it has come further where nothing is laid
pub reached_same : (o : Opening) (sent : Sent) (v : GroupView) (h : List Entry) (p : ℕ) → HasReached o sent v h p
    → HasReached o sent v h (suc p)
reached_same o sent v h p r = record {
  ordered = r.ordered;
  view = r.view;
  below = λ i q after view at. let less : q < p = r.below i q after view at in omega arith;
}
