-- A next message that is put behind a history whose last view may have gaps: the places, and the order.
use Rattle.std.proofs.Common.{◌≡◌, ℕ, List, ◌∷◌, arith, ◌⊎◌, inl, inr, ap, [], Some, ◌<◌, ◌++◌, length, sym, ◌∙◌, ◌+◌, length-append, ◌-◌, take, slice_get, subst, IsSomeAnd, is_some, IsSome, refl, append_assoc, suc}
use Rattle.std.proofs.lemmas.{List.{take-append-le, take_at}, Option.same_Some}
use Rattle.dr_entry.specs.declared.entry.Entry.{Entry, TheVariants.{Msg, View}}
use Rattle.dr_entry.proofs.ListPlaces.{slice_get-push_cases}
use Rattle.dr_history.specs.{History.{GroupView, Sent, place_at, view_of}, Order.IsSucceededBy}
use Rattle.dr_history.{specs.declared.opening.Opening.Opening, proofs.Histories.place_at-within}
use Rattle.dr_history.proofs.LooseOrder.{place_at-left, view_of-left, InLooseOrder, HasReached}
use Rattle.dr_history.proofs.{Pushing.{IsNext, place_at-last, PlacedBelow, numbered-push}, ViewLemmas.view_of-Msg}

-- an entry with a place is an old one, with its old place, or the new one
place_at-cases : (o : Opening) (sent : Sent) (v : GroupView) (h : List Entry) (p s i : ℕ) (b : List ℕ)
    (j q : ℕ) → IsNext o sent v h p s i b → place_at sent (h ++ Msg s i b ∷ []) j ≡ Some q
    → ((j < length h) × (place_at sent h j ≡ Some q)) ⊎ ((j ≡ length h) × (p ≡ q))
place_at-cases o sent v h p s i b j q next at = by (within (place_at-within sent (h ++ Msg s i b ∷ []) j q at))
  where
    within : j < length (h ++ Msg s i b ∷ []) → (j < length h) ⊎ (j ≡ length h)
    within l = grind (arith, length-append h (Msg s i b ∷ []))

    by : (j < length h) ⊎ (j ≡ length h) → ((j < length h) × (place_at sent h j ≡ Some q))
        ⊎ ((j ≡ length h) × (p ≡ q))
    by (inl l) = inl (l, sym (place_at-left sent h (Msg s i b ∷ []) j l) ∙ at)
    by (inr e) = inr (
      e,
      same_Some p q (sym next.place ∙
          (sym (place_at-last sent v h s i b next.view) ∙ (ap (place_at sent (h ++ Msg s i b ∷ [])) (sym e) ∙ at))),
    )

-- and the view, the places and what was delivered go one place further
pub PlacedBelow-push : (o : Opening) (sent : Sent) (v : GroupView) (h : List Entry) (p s i : ℕ)
    (b : List ℕ) → IsNext o sent v h p s i b → PlacedBelow o sent v (h ++ Msg s i b ∷ []) (p + 1)
PlacedBelow-push o sent v h p s i b next j q after view at = by (place_at-cases o sent v h p s i b j q next at)
  where
    by : ((j < length h) × (place_at sent h j ≡ Some q)) ⊎ ((j ≡ length h) × (p ≡ q)) → q < p + 1
    by (inl f) = let below : q < p =
        next.above j q after (sym (view_of-left h (Msg s i b ∷ []) j (omega (arith, f.0))) ∙ view) f.1 in omega arith
    by (inr f) = omega (arith, f.1)

views_pushed : (o : Opening) (sent : Sent) (h : List Entry) (s i : ℕ) (b : List ℕ) (j age number members : ℕ)
    → InLooseOrder o sent h → length o.start < j → slice_get (h ++ Msg s i b ∷ []) j ≡ Some (View age number members)
    → IsSomeAnd (view_of (take j (h ++ Msg s i b ∷ [])))
    (λ v. IsSucceededBy o (take j (h ++ Msg s i b ∷ [])) v age number members)
views_pushed o sent h s i b j age number members order after at =
    by (slice_get-push_cases h (Msg s i b) (View age number members) j at)
  where
    by : ((j < length h) × (slice_get h j ≡ Some (View age number members))) ⊎ ((j ≡ length h)
        × (Msg s i b ≡ View age number members)) → IsSomeAnd (view_of (take j (h ++ Msg s i b ∷ [])))
        (λ v. IsSucceededBy o (take j (h ++ Msg s i b ∷ [])) v age number members)
    by (inl r) = subst (λ (es : List Entry). IsSomeAnd (view_of es) (λ v. IsSucceededBy o es v age number members))
        (sym (take-append-le j h (Msg s i b ∷ []) (omega (arith, r.0)))) (order.views j age number members after r.1)
    by (inr r) = let same = r.1 in absurd (cc)

placed_pushed : (o : Opening) (sent : Sent) (v : GroupView) (h : List Entry) (p s i : ℕ) (b : List ℕ)
    (j t index : ℕ) (c : List ℕ) → InLooseOrder o sent h → IsNext o sent v h p s i b → length o.start < j
    → slice_get (h ++ Msg s i b ∷ []) j ≡ Some (Msg t index c) → IsSome (place_at sent (h ++ Msg s i b ∷ []) j)
placed_pushed o sent v h p s i b j t index c order next after at =
    by (slice_get-push_cases h (Msg s i b) (Msg t index c) j at)
  where
    by : ((j < length h) × (slice_get h j ≡ Some (Msg t index c))) ⊎ ((j ≡ length h) × (Msg s i b ≡ Msg t index c))
        → IsSome (place_at sent (h ++ Msg s i b ∷ []) j)
    by (inl r) = ap is_some (place_at-left sent h (Msg s i b ∷ []) j r.0) ∙ order.placed j t index c after r.1
    by (inr r) = ap is_some (ap (place_at sent (h ++ Msg s i b ∷ [])) r.0
        ∙ (place_at-last sent v h s i b next.view ∙ next.place))

rising_pushed : (o : Opening) (sent : Sent) (v : GroupView) (h : List Entry) (p s i : ℕ) (b : List ℕ)
    (j k x y : ℕ) → InLooseOrder o sent h → IsNext o sent v h p s i b → length o.start < j → j < k
    → view_of (take j (h ++ Msg s i b ∷ [])) ≡ view_of (take k (h ++ Msg s i b ∷ []))
    → place_at sent (h ++ Msg s i b ∷ []) j ≡ Some x → place_at sent (h ++ Msg s i b ∷ []) k ≡ Some y → x < y
rising_pushed o sent v h p s i b j k x y order next after less same at_j at_k =
    by (place_at-cases o sent v h p s i b j x next at_j) (place_at-cases o sent v h p s i b k y next at_k)
  where
    by : ((j < length h) × (place_at sent h j ≡ Some x)) ⊎ ((j ≡ length h) × (p ≡ x))
        → ((k < length h) × (place_at sent h k ≡ Some y)) ⊎ ((k ≡ length h) × (p ≡ y)) → x < y
    by (inl f) (inl g) = order.rising j k x y after less (sym (view_of-left h (Msg s i b ∷ []) j (omega (arith, f.0)))
        ∙ (same ∙ view_of-left h (Msg s i b ∷ []) k (omega (arith, g.0)))) f.1 g.1
    by (inl f) (inr g) =
        let view : view_of (take j h) ≡ Some v = sym (view_of-left h (Msg s i b ∷ []) j (omega (arith, f.0))) ∙
        (same ∙ (ap (λ z. view_of (take z (h ++ Msg s i b ∷ []))) g.0
        ∙ (ap view_of (take_at h (Msg s i b ∷ []) (length h) refl) ∙ next.view))) in
        omega (arith, next.above j x after view f.1, g.1)
    by (inr f) (inl g) = absurd (omega (arith, f.0, g.0, less))
    by (inr f) (inr g) = absurd (omega (arith, f.0, g.0, less))

-- the next message keeps the order
pub InLooseOrder-push : (o : Opening) (sent : Sent) (v : GroupView) (h : List Entry) (p s i : ℕ)
    (b : List ℕ) → InLooseOrder o sent h → IsNext o sent v h p s i b → InLooseOrder o sent (h ++ Msg s i b ∷ [])
InLooseOrder-push o sent v h p s i b order next = record {
  begins = (
    order.begins.0 ++ Msg s i b ∷ [],
    sym (append_assoc _ order.begins.0 (Msg s i b ∷ [])) ∙ ap (λ es. es ++ Msg s i b ∷ []) order.begins.1,
  );
  views = λ j age number members after at. views_pushed o sent h s i b j age number members order after at;
  placed = λ j t index c after at. placed_pushed o sent v h p s i b j t index c order next after at;
  rising = λ j k x y after less same at_j at_k. rising_pushed o sent v h p s i b j k x y order next after
      less same at_j at_k;
  numbered = λ t. numbered-push o t s h i b (order.numbered t) next.index next.bytes;
}

-- and so by a message with its entry
pub reached_message : (o : Opening) (sent : Sent) (v : GroupView) (h : List Entry) (p s i : ℕ) (b : List ℕ)
    → IsNext o sent v h p s i b → HasReached o sent v h p → HasReached o sent v (h ++ Msg s i b ∷ []) (suc p)
reached_message o sent v h p s i b next r = record {
  ordered = InLooseOrder-push o sent v h p s i b r.ordered next;
  view = view_of-Msg h s i b ∙ r.view;
  below = λ j q after view at. let less : q
      < p + 1 = PlacedBelow-push o sent v h p s i b next j q after view at in omega arith;
}
