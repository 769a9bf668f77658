-- What the tests of the parts of an order decide.
use Rattle.std.proofs.Common.{◌≡◌, ℕ, Bool, true, false, Decides, List, length, take, slice_get, Option, None, Some, IsSomeAnd, sym, subst, ◌∙◌, arith}
use Rattle.std.proofs.lemmas.Option.{same_Some}
use Rattle.dr_entry.specs.declared.entry.Entry.{Entry, TheVariants.View}
use Rattle.dr_history.specs.History.{IsPrefixOf, GroupView, Sent, view_of}
use Rattle.dr_history.specs.{Order.{InOrder, IsSucceededBy, first_entries}, declared.opening.Opening.Opening}
use Rattle.dr_oracle.specs.Parts.{AllNumbered, AllPlaced, Follows, LastViewWhole, PlacesRise, ViewsFollow}

-- the test of a View against the view before it decides whether it may succeed that
pub follows_decides : (o : Opening) (h : List Entry) (i a n m : ℕ) (v : GroupView) (b : Bool)
    → slice_get h i ≡ Some (View a n m) → view_of (take i h) ≡ Some v → Decides b (IsSucceededBy o (take i h) v a n m)
    → Decides b (Follows o h i)
follows_decides o h i a n m v b at before decides = (
  λ t age number members there. forward t age number members
      (same_Some (View a n m) (View age number members) (sym at ∙ there)),
  λ f. decides.1 (subst (λ (z : Option GroupView). IsSomeAnd z (λ w. IsSucceededBy o (take i h) w a n m)) before
      (f a n m at)),
)
  where
    forward : b ≡ true → (age number members : ℕ) → View a n m ≡ View age number members
        → IsSomeAnd (view_of (take i h)) (λ w. IsSucceededBy o (take i h) w age number members)
    forward t age number members same =
        let same_age : a ≡ age = cc in
        let same_number : n ≡ number = cc in
        let same_members : m ≡ members = cc in
        rw before (rw (← same_age, ← same_number, ← same_members) (decides.0 t))

-- a View before which there is no view succeeds none
pub follows_none : (o : Opening) (h : List Entry) (i a n m : ℕ) → slice_get h i ≡ Some (View a n m)
    → view_of (take i h) ≡ None → Decides false (Follows o h i)
follows_none o h i a n m at before = (
  λ t. absurd (cc),
  λ f. absurd
      (subst (λ (z : Option GroupView). IsSomeAnd z (λ w. IsSucceededBy o (take i h) w a n m)) before (f a n m at)),
)

-- the parts of an order that its views and places are in, behind the first `start + 1` entries
abbrev pub FrontParts : Opening → Sent → List Entry → ℕ → Type 0
FrontParts o sent h start =
    (IsPrefixOf (first_entries o) h × ViewsFollow o h start) × (AllPlaced sent h start × PlacesRise sent h start)

-- all parts of it
abbrev pub Parts : Opening → Sent → List Entry → ℕ → Type 0
Parts o sent h start = FrontParts o sent h start × (AllNumbered o h × LastViewWhole sent h start)

-- the parts together are the order
pub InOrder-from_parts : (o : Opening) (sent : Sent) (h : List Entry) (start : ℕ)
    → start ≡ length o.start → Parts o sent h start → InOrder o sent h
InOrder-from_parts o sent h start is parts = record {
  begins = parts.0.0.0;
  views = λ i age number members after. parts.0.0.1 i age number members (omega (arith, is, after));
  placed = λ i s index b after. parts.0.1.0 i s index b (omega (arith, is, after));
  rising = λ i j p q after. parts.0.1.1 i j p q (omega (arith, is, after));
  numbered = parts.1.0;
  whole = λ i p q v after. parts.1.1 i p q v (omega (arith, is, after));
}

-- an order has each of its parts
pub parts_from_InOrder : (o : Opening) (sent : Sent) (h : List Entry) (start : ℕ)
    → start ≡ length o.start → InOrder o sent h → Parts o sent h start
parts_from_InOrder o sent h start is f = (
  (
    (f.begins, λ i age number members after. f.views i age number members (omega (arith, is, after))),
    (
      λ i s index b after. f.placed i s index b (omega (arith, is, after)),
      λ i j p q after. f.rising i j p q (omega (arith, is, after)),
    ),
  ),
  (f.numbered, λ i p q v after. f.whole i p q v (omega (arith, is, after))),
)
