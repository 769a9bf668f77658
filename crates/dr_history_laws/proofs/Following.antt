-- A View by which the view of a history may be succeeded puts it in the new view, and brings it in order again;
-- what is sent in a view is nothing to the history before it.
use Rattle.std.proofs.Common.{◌≡◌, ◌≢◌, refl, ap, sym, ◌∙◌, ◌⊎◌, inl, inr, subst, ℕ, ◌<◌, ◌≤◌, arith, List, [], ◌∷◌, ◌++◌, length, take, Option, None, Some, slice_get, is_some, IsSome, IsSomeAnd, append_assoc, length-append}
use Rattle.std.proofs.lemmas.{Bool.cases_lt, List.{take-append-le, take_at}, Option.{same_Some, slice_get_within}}
use Rattle.dr_entry.specs.declared.entry.Entry.{Entry, TheVariants.{View, Msg}}
use Rattle.dr_entry.proofs.ListPlaces.{slice_get-seam, slice_get-push_cases}
use Rattle.dr_history.specs.History.{IsPrefixOf, GroupView, Sent, view_of, place_of_entry, place_at}
use Rattle.dr_history.specs.{Members.members_of, Order.{IsSucceededBy, InOrder, numbered_messages}}
use Rattle.dr_history.specs.declared.opening.Opening.{Opening}
use Rattle.dr_history.proofs.LooseOrder.{view_of-left, place_at-left, InLooseOrder, InOrder-from, LastViewWhole}
use Rattle.dr_history.proofs.{NumberedLemmas.messages_from-View, ViewLemmas.{view_of-View, number-before}}
use Rattle.dr_history_laws.{specs.Laid.EndsWithView, proofs.Ordered.{last-View, before-last}}

-- the view of a View
abbrev view_by : ℕ → ℕ → ℕ → GroupView
view_by a n m = record { age = a; number = n; members = members_of m }

-- an entry with a place is an old one
place_at-old : (sent : Sent) (h : List Entry) (a n m i p : ℕ) → place_at sent (h ++ View a n m ∷ []) i ≡ Some p
    → (i < length h) × (place_at sent h i ≡ Some p)
place_at-old sent h a n m i p at =
    let less = before-last sent (h ++ View a n m ∷ []) (view_by a n m) i p
    (record { before = h; mask = m; ends = refl; members = refl }) at in
    (less, sym (place_at-left sent h (View a n m ∷ []) i less) ∙ at)

-- with the View the history is in loose order
loose_View : (o : Opening) (sent : Sent) (h : List Entry) (v : GroupView) (a n m : ℕ) → InLooseOrder o sent h
    → view_of h ≡ Some v → IsSucceededBy o h v a n m → InLooseOrder o sent (h ++ View a n m ∷ [])
loose_View o sent h v a n m order view follows = record {
  begins = (
    order.begins.0 ++ View a n m ∷ [],
    sym (append_assoc _ order.begins.0 (View a n m ∷ [])) ∙ ap (λ es. es ++ View a n m ∷ []) order.begins.1,
  );
  views = λ i age number members after at. views i age number members after
      (slice_get-push_cases h (View a n m) (View age number members) i at);
  placed = λ i s index b after at. placed i s index b after
      (slice_get-push_cases h (View a n m) (Msg s index b) i at);
  rising = λ i j p q after less same at_i at_j. rising i j p q after less same (place_at-old sent h a n m i p at_i)
      (place_at-old sent h a n m j q at_j);
  numbered = λ s. subst (λ es. IsPrefixOf es (numbered_messages o s)) (sym (messages_from-View s h a n m))
      (order.numbered s);
}
  where
    views : (i age number members : ℕ)
        → length o.start < i → ((i < length h) × (slice_get h i ≡ Some (View age number members))) ⊎ ((i ≡ length h)
        × (View a n m ≡ View age number members)) → IsSomeAnd (view_of (take i (h ++ View a n m ∷ [])))
        (λ u. IsSucceededBy o (take i (h ++ View a n m ∷ [])) u age number members)
    views i age number members after (inl old) =
        subst (λ (es : List Entry). IsSomeAnd (view_of es) (λ u. IsSucceededBy o es u age number members))
        (sym (take-append-le i h (View a n m ∷ []) (omega (arith, old.0))))
        (order.views i age number members after old.1)
    views i age number members after (inr new) =
        let same = new.1 in
        let same_age : a ≡ age = cc in
        let same_number : n ≡ number = cc in
        let same_members : m ≡ members = cc in
        let here : take i (h ++ View a n m ∷ []) ≡ h = ap (λ k. take k (h ++ View a n m ∷ [])) new.0
        ∙ take_at h (View a n m ∷ []) (length h) refl in
        subst (λ (es : List Entry). IsSomeAnd (view_of es) (λ u. IsSucceededBy o es u age number members)) (sym here)
        (subst (λ (z : Option GroupView). IsSomeAnd z (λ u. IsSucceededBy o h u age number members)) (sym view)
        (rw (← same_age, ← same_number, ← same_members) follows))

    placed : (i s index : ℕ) (b : List ℕ) → length o.start < i
        → ((i < length h) × (slice_get h i ≡ Some (Msg s index b))) ⊎ ((i ≡ length h) × (View a n m ≡ Msg s index b))
        → IsSome (place_at sent (h ++ View a n m ∷ []) i)
    placed i s index b after (inl old) = ap is_some (place_at-left sent h (View a n m ∷ []) i old.0)
        ∙ order.placed i s index b after old.1
    placed i s index b after (inr new) = let same = new.1 in absurd (cc)

    rising : (i j p q : ℕ) → length o.start < i → i < j → view_of (take i (h ++ View a n m ∷ []))
        ≡ view_of (take j (h ++ View a n m ∷ [])) → (i < length h) × (place_at sent h i ≡ Some p) → (j < length h)
        × (place_at sent h j ≡ Some q) → p < q
    rising i j p q after less same f g = order.rising i j p q after less
        (sym (view_of-left h (View a n m ∷ []) i (omega (arith, f.0)))
        ∙ (same ∙ view_of-left h (View a n m ∷ []) j (omega (arith, g.0)))) f.1 g.1

-- and in order, since nothing was delivered in the new view
pub InOrder-View : (o : Opening) (sent : Sent) (h : List Entry) (v : GroupView) (a n m : ℕ)
    → InLooseOrder o sent h → view_of h ≡ Some v → IsSucceededBy o h v a n m → InOrder o sent (h ++ View a n m ∷ [])
InOrder-View o sent h v a n m order view succeeded = InOrder-from o sent (h ++ View a n m ∷ []) now whole
  where
    now : InLooseOrder o sent (h ++ View a n m ∷ [])
    now = loose_View o sent h v a n m order view succeeded

    whole : LastViewWhole o sent (h ++ View a n m ∷ [])
    whole i p q w after before_i last at l =
        let old = place_at-old sent h a n m i p at in
        let same : view_by a n m ≡ w = same_Some (view_by a n m) w (sym (view_of-View h a n m) ∙ last) in
        let same_number : n ≡ w.number = ap (λ u. u.number) same in
        absurd (omega (
          arith,
          same_number,
          number-before o sent (h ++ View a n m ∷ []) i (length h) a n m w now after
              (omega (arith, old.0)) (slice_get-seam h (View a n m) []) before_i,
        ))

-- the places before a View are those of other views
place_at-elsewhere : (o : Opening) (sent now : Sent) (before : List Entry) (v : GroupView) (i : ℕ)
    → InLooseOrder o sent before → EndsWithView before v → ((s n : ℕ) → n ≢ v.number → now s n ≡ sent s n)
    → length o.start < i → place_at now before i ≡ place_at sent before i
place_at-elsewhere o sent now before v i order ends same after = by (slice_get before i) refl
  where
    last : slice_get before (length ends.before) ≡ Some (View v.age v.number ends.mask)
    last = last-View before v ends

    place : (s k : ℕ) (b : List ℕ) → i < length ends.before → (z : Option GroupView) → view_of (take i before) ≡ z
        → place_of_entry now z (Msg s k b) ≡ place_of_entry sent z (Msg s k b)
    place s k b less None e = refl
    place s k b less (Some w) e =
        let smaller = number-before o sent before i
        (length ends.before) v.age v.number ends.mask w order after (omega (arith, less)) last e in
        let items : now s w.number ≡ sent s w.number = same s w.number (λ f. omega (arith, f, smaller)) in
        rw items refl

    none : (z : Option GroupView) (a n m : ℕ) → place_of_entry now z (View a n m) ≡ place_of_entry sent z (View a n m)
    none None a n m = refl
    none (Some w) a n m = refl

    within : (s k : ℕ) (b : List ℕ) → slice_get before i ≡ Some (Msg s k b) → i < length ends.before
    within s k b e = at (cases_lt i (length ends.before))
      where
        at : (i < length ends.before) ⊎ (length ends.before ≤ i) → i < length ends.before
        at (inl less) = less
        at (inr more) =
            let is : i ≡ length ends.before = omega (
              arith,
              more,
              slice_get_within before i (Msg s k b) e,
              ap length ends.ends,
              length-append ends.before (View v.age v.number ends.mask ∷ []),
            ) in
            let f : Some (View v.age v.number ends.mask) ≡ Some (Msg s k b) = sym last
            ∙ (ap (slice_get before) (sym is) ∙ e) in
            absurd (cc)

    by : (z : Option Entry) → slice_get before i ≡ z → place_at now before i ≡ place_at sent before i
    by None e = rw e refl
    by (Some (View a n m)) e = rw e (none (view_of (take i before)) a n m)
    by (Some (Msg s k b)) e = rw e (place s k b (within s k b e) (view_of (take i before)) refl)

-- what is sent in a view is nothing to the order before it
pub InLooseOrder-elsewhere : (o : Opening) (sent now : Sent) (before : List Entry) (v : GroupView)
    → InLooseOrder o sent before → EndsWithView before v → ((s n : ℕ) → n ≢ v.number → now s n ≡ sent s n)
    → InLooseOrder o now before
InLooseOrder-elsewhere o sent now before v order ends same = record {
  begins = order.begins;
  views = order.views;
  placed = λ i s index b after at. ap is_some
      (place_at-elsewhere o sent now before v i order ends same after) ∙ order.placed i s index b after at;
  rising = λ i j p q after less views at_i at_j. order.rising i j p q after less views
      (sym (place_at-elsewhere o sent now before v i order ends same after) ∙ at_i)
      (sym (place_at-elsewhere o sent now before v j order ends same (omega (arith, after, less))) ∙ at_j);
  numbered = order.numbered;
}
