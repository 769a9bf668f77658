-- A history in order that ends with a View stays in order while the view's places are laid behind it.
use Rattle.std.proofs.Common.{◌≡◌, refl, ap, sym, ◌∙◌, ◌⊎◌, inl, inr, subst, ℕ, zero, suc, ◌+◌, ◌<◌, ◌≤◌, arith, List, [], ◌∷◌, ◌++◌, length, take, Option, None, Some, slice_get, IsSomeAnd, length-append, append-nil, append_assoc, ◌-◌}
use Rattle.std.proofs.lemmas.{Bool.cases_lt, List.Elements.Contains-push, Option.{none-some, same_Some}}
use Rattle.dr_entry.specs.declared.{end.SentItem.{SentItem, TheVariants.{Null, Index}}, entry.Entry.Entry}
use Rattle.dr_entry.{specs.declared.entry.Entry.TheVariants.{View, Msg}, proofs.ListFacts.AreDistinct}
use Rattle.dr_entry.proofs.{ListPlaces.slice_get-seam, OptionFacts.value_of}
use Rattle.dr_history.specs.{History.{GroupView, Sent, view_of, item_at, place_at}, declared.opening.Opening.Opening}
use Rattle.dr_history.{specs.Order.{InOrder, IsDelivered, first_entries}, proofs.MemberLemmas.members_of-distinct}
use Rattle.dr_history.proofs.{Histories.place_at-within, Pushing.IsNext, ViewLemmas.{view_of-View, number-before}}
use Rattle.dr_history.proofs.LooseOrder.{InLooseOrder, InLooseOrder-from, InOrder-from, LastViewWhole, HasReached, reached_same, DeliveredBelow, DeliveredBelow-more, delivered_next}
use Rattle.dr_history.proofs.Placing.{reached_message}
use Rattle.dr_history_laws.specs.Laid.{laid, HeldBelow, EndsWithView, GoesOn, first_view}
use Rattle.dr_history_laws.proofs.{Counting.{bytes_at, index-next}, Indices.place_in-here}
use Rattle.dr_history_laws.proofs.LaidLemmas.{laid-none, laid-absent, laid-null, laid-message}

-- the view at its View
view-at_end : (before : List Entry) (v : GroupView) → EndsWithView before v → view_of before ≡ Some v
view-at_end before v ends = ap view_of ends.ends ∙ (view_of-View ends.before v.age v.number ends.mask
    ∙ ap (λ ms. Some (record { age = v.age; number = v.number; members = ms })) ends.members)

-- the View of the view that a history ends with
pub last-View : (before : List Entry) (v : GroupView) → (ends : EndsWithView before v)
    → slice_get before (length ends.before) ≡ Some (View v.age v.number ends.mask)
last-View before v ends = ap (λ es. slice_get es (length ends.before)) ends.ends
    ∙ slice_get-seam ends.before (View v.age v.number ends.mask) []

-- an entry with a place stands before it
pub before-last : (sent : Sent) (before : List Entry) (v : GroupView) (i q : ℕ) → (ends : EndsWithView before v)
    → place_at sent before i ≡ Some q → i < length ends.before
before-last sent before v i q ends at = by (cases_lt i (length ends.before))
  where
    within : i < length ends.before + 1
    within = omega (
      arith,
      place_at-within sent before i q at,
      ap length ends.ends,
      length-append ends.before (View v.age v.number ends.mask ∷ []),
    )

    no_place : (w : Option GroupView) → view_of (take (length ends.before) before) ≡ w
        → place_at sent before (length ends.before) ≡ None
    no_place None e = rw (e, last-View before v ends) refl
    no_place (Some w) e = rw (e, last-View before v ends) refl

    by : (i < length ends.before) ⊎ (length ends.before ≤ i) → i < length ends.before
    by (inl less) = less
    by (inr more) =
        let is : i ≡ length ends.before = omega (arith, more, within) in
        absurd (none-some q (sym
        (ap (place_at sent before) is ∙ no_place (view_of (take (length ends.before) before)) refl) ∙ at))

-- so nothing was delivered in a view before its View
none_before : (o : Opening) (sent : Sent) (before : List Entry) (v : GroupView) (i q : ℕ) → InLooseOrder o sent before
    → EndsWithView before v → length o.start < i → view_of (take i before) ≡ Some v
    → place_at sent before i ≡ Some q → ⊥
none_before o sent before v i q order ends after view at =
    let less = before-last sent before v i q ends at in
    omega (
      arith,
      number-before o sent before i (length ends.before) v.age v.number ends.mask v order after (omega (arith, less))
          (last-View before v ends) view,
    )

-- the members of a view that a history ends with
pub view-distinct : (h : List Entry) (v : GroupView) → EndsWithView h v → AreDistinct v.members
view-distinct h v ends = subst AreDistinct ends.members (members_of-distinct ends.mask)

-- so it comes to every place
pub reached : (o : Opening) (sent : Sent) (before : List Entry) (v : GroupView) (p : ℕ) → InLooseOrder o sent before
    → EndsWithView before v → GoesOn o sent before v → HasReached o sent v (before ++ laid o sent v p) p
reached o sent before v zero order ends goes = subst (λ h. HasReached o sent v h 0)
    (sym (append-nil before) ∙ ap (λ es. before ++ es) (sym (laid-none o sent v))) (record {
      ordered = order;
      view = view-at_end before v ends;
      below = λ i q after view at. absurd (none_before o sent before v i q order ends after view at);
    })
reached o sent before v (suc p) order ends goes =
    by (item_at sent v p) refl (reached o sent before v p order ends goes)
  where
    by : (z : Option (ℕ × SentItem)) → item_at sent v p ≡ z → HasReached o sent v (before ++ laid o sent v p) p
        → HasReached o sent v (before ++ laid o sent v (suc p)) (suc p)
    by None e r = subst (λ es. HasReached o sent v (before ++ es) (suc p)) (sym (laid-absent o sent v p e))
        (reached_same o sent v (before ++ laid o sent v p) p r)
    by (Some (s, Null)) e r = subst (λ es. HasReached o sent v (before ++ es) (suc p))
        (sym (laid-null o sent v p s e)) (reached_same o sent v (before ++ laid o sent v p) p r)
    by (Some (s, Index i)) e r =
        let b = bytes_at o sent before v p s i goes e in
        let next : IsNext o sent v (before ++ laid o sent v p) p s i b.0 = record {
          view = r.view;
          place = place_in-here o sent before v p s i goes (view-distinct before v ends) e;
          above = r.below;
          index = index-next o sent before v p s i goes (view-distinct before v ends) e;
          bytes = b.1;
        } in
        subst (λ h. HasReached o sent v h (suc p)) (append_assoc before (laid o sent v p) (Msg s i b.0 ∷ [])
        ∙ ap (λ es. before ++ es) (sym (laid-message o sent v p s i b.0 e b.1)))
        (reached_message o sent v (before ++ laid o sent v p) p s i b.0 next r)

-- and where the places hold items, these were delivered
pub delivered : (o : Opening) (sent : Sent) (before : List Entry) (v : GroupView) (p : ℕ)
    → GoesOn o sent before v → HeldBelow sent v p → DeliveredBelow sent v (before ++ laid o sent v p) p
delivered o sent before v zero goes held = λ q l. absurd (omega arith)
delivered o sent before v (suc p) goes held = by (value_of (item_at sent v p) (held p (omega arith)))
    (delivered o sent before v p goes (λ q l. held q (omega arith)))
  where
    by : (t : ℕ × SentItem) × (item_at sent v p ≡ Some t) → DeliveredBelow sent v (before ++ laid o sent v p) p
        → DeliveredBelow sent v (before ++ laid o sent v (suc p)) (suc p)
    by ((s, Null), e) all = subst (λ es. DeliveredBelow sent v (before ++ es) (suc p))
        (sym (laid-null o sent v p s e)) (delivered_next sent v (before ++ laid o sent v p) p s Null all e tt)
    by ((s, Index i), e) all =
        let b = bytes_at o sent before v p s i goes e in
        let h : List Entry = before ++ laid o sent v p in
        let more : DeliveredBelow sent v (h ++ Msg s i b.0 ∷ []) (suc p) =
        delivered_next sent v (h ++ Msg s i b.0 ∷ []) p s (Index i)
        (DeliveredBelow-more sent v h (Msg s i b.0 ∷ []) p all) e (b.0, Contains-push h (Msg s i b.0)) in
        subst (λ g. DeliveredBelow sent v g (suc p)) (append_assoc before (laid o sent v p) (Msg s i b.0 ∷ [])
        ∙ ap (λ es. before ++ es) (sym (laid-message o sent v p s i b.0 e b.1))) more

-- so it is in order there
pub InOrder-laid : (o : Opening) (sent : Sent) (before : List Entry) (v : GroupView) (p : ℕ) → InOrder o sent before
    → EndsWithView before v → GoesOn o sent before v → HeldBelow sent v p → InOrder o sent (before ++ laid o sent v p)
InOrder-laid o sent before v p order ends goes held = InOrder-from o sent (before ++ laid o sent v p) r.ordered whole
  where
    r : HasReached o sent v (before ++ laid o sent v p) p
    r = reached o sent before v p (InLooseOrder-from o sent before order) ends goes

    whole : LastViewWhole o sent (before ++ laid o sent v p)
    whole i x q w after before_i last at l =
        let same : v ≡ w = same_Some v w (sym r.view ∙ last) in
        let below : x < p = r.below i x after (before_i ∙ ap Some (sym same)) at in
        subst (λ u. IsSomeAnd (item_at sent u q) (λ t. IsDelivered (before ++ laid o sent v p) t.0 t.1)) same
        (delivered o sent before v p goes held q (omega (arith, l, below)))

-- they end with View 0
pub first-ends : (o : Opening) → EndsWithView (first_entries o) (first_view o)
first-ends o = record { before = o.start; mask = o.members; ends = refl; members = refl }
