-- A view that ends with a cut: of each member so many of its first items, and no more.
use Rattle.std.{specs.List.range_with_len, proofs.lemmas.{Bool.cases_eq, Option.slice_get_within}}
use Rattle.std.proofs.Common.{◌≡◌, ◌≢◌, refl, ap, sym, ◌∙◌, ◌⊎◌, inl, inr, subst, ℕ, ◌+◌, ◌/◌, ◌%◌, ◌<◌, ◌≤◌, arith, true, nat_lt, List, [], ◌∷◌, ◌++◌, length, map, take, drop, Option, None, Some, slice_get, option_and_then, append-nil, append_assoc, take-append-drop, Contains}
use Rattle.dr_entry.specs.declared.{end.SentItem.TheVariants.Index, entry.Entry.{Entry, TheVariants.View}}
use Rattle.dr_entry.proofs.{ListFacts.top_place, ListParts.filter_map-agree}
use Rattle.dr_entry.proofs.ListPlaces.{Contains-slice_get, slice_get-some}
use Rattle.dr_history.specs.History.{IsPrefixOf, GroupView, Sent, messages_in, entry_of, item_at, merge}
use Rattle.dr_history.specs.{Order.{IsSucceededBy, InOrder, messages_from}, Places.{is_held, held_places, front_of}}
use Rattle.dr_history.{specs.declared.opening.Opening.Opening, proofs.Lists.{slice_get-prefix, take-prefix}}
use Rattle.dr_history.proofs.{Cutting.{cut, cut_here, cut_elsewhere, cut_held, cut_counts}, Merging.is_held-member}
use Rattle.dr_history.proofs.{Fronts.front_held, LooseOrder.{InLooseOrder, InLooseOrder-from, HasReached}}
use Rattle.dr_history_laws.specs.Laid.{laid, entry_at, EndsWithView, GoesOn, SentMore, SentMoreIn}
use Rattle.dr_history_laws.proofs.{Following.{InOrder-View, InLooseOrder-elsewhere}, LaidLemmas.laid-same}
use Rattle.dr_history_laws.proofs.{Merging.{merge-laid, laid-top}, Ordered.reached, Steady.InOrder-steady}

-- it is the front part of what was sent
cut_prefix : (sent : Sent) (v : GroupView) (taken : ℕ → ℕ) → SentMore (cut sent v taken) sent
cut_prefix sent v taken s n = by (cases_eq n v.number)
  where
    by : (n ≡ v.number) ⊎ (n ≢ v.number) → IsPrefixOf (cut sent v taken s n) (sent s n)
    by (inl e) = subst (λ k. IsPrefixOf (cut sent v taken s k) (sent s k)) (sym e) (
      drop (taken s) (sent s v.number),
      ap (λ items. items ++ drop (taken s) (sent s v.number)) (cut_here sent v taken s)
          ∙ take-append-drop (taken s) (sent s v.number),
    )
    by (inr other) = ([], ap (λ items. items ++ []) (cut_elsewhere sent v taken s n other) ∙ append-nil (sent s n))

-- its messages go on as well
pub cut_goes_on : (o : Opening) (sent : Sent) (h : List Entry) (v : GroupView) (taken : ℕ → ℕ) → GoesOn o sent h v
    → GoesOn o (cut sent v taken) h v
cut_goes_on o sent h v taken goes = record {
  index = λ s k i member at. goes.index s k i member (old s k i at) ∙
      ap (λ items. length (messages_from s h) + messages_in items) (sym (front s k i at));
  scripted = λ s k i member at. goes.scripted s k i member (old s k i at);
}
  where
    old : (s k i : ℕ) → slice_get (cut sent v taken s v.number) k ≡ Some (Index i)
        → slice_get (sent s v.number) k ≡ Some (Index i)
    old s k i at = slice_get-prefix (cut sent v taken s v.number) (sent s v.number) k (Index i)
        (cut_prefix sent v taken s v.number) at

    front : (s k i : ℕ) → slice_get (cut sent v taken s v.number) k ≡ Some (Index i)
        → take k (cut sent v taken s v.number) ≡ take k (sent s v.number)
    front s k i at = sym (take-prefix (cut sent v taken s v.number) (sent s v.number) k
        (cut_prefix sent v taken s v.number)
        (omega (arith, slice_get_within (cut sent v taken s v.number) k (Index i) at)))

pub cut_entry : (o : Opening) (sent : Sent) (v : GroupView) (taken : ℕ → ℕ) (q : ℕ)
    → is_held (map taken v.members) q ≡ true → entry_at o (cut sent v taken) v q ≡ entry_at o sent v q
cut_entry o sent v taken q held = ap (option_and_then (λ t. entry_of o t.0 t.1)) (cut_held sent v taken q held)

-- the merge of what is taken is all that is laid of what was cut
pub cut_merge : (o : Opening) (sent : Sent) (v : GroupView) (taken : ℕ → ℕ)
    → merge o sent v (map taken v.members) ≡ laid o (cut sent v taken) v (top_place (map taken v.members))
unfolding held_places
cut_merge o sent v taken = sym (filter_map-agree (entry_at o (cut sent v taken) v)
    (entry_at o sent v) (is_held (map taken v.members)) (range_with_len 0 (top_place (map taken v.members)))
    (λ q held. cut_entry o sent v taken q held)) ∙ merge-laid o (cut sent v taken) v taken (cut_counts sent v taken)

-- a history in order, the merge of what is taken of its view, and a View by which this may be succeeded
pub InOrder-next_view : (o : Opening) (sent : Sent) (before : List Entry) (v : GroupView)
    (taken : ℕ → ℕ) (age number mask : ℕ) → InOrder o sent before → EndsWithView before v → GoesOn o sent before v
    → IsSucceededBy o (before ++ merge o sent v (map taken v.members)) v age number mask
    → InOrder o sent ((before ++ merge o sent v (map taken v.members)) ++ View age number mask ∷ [])
InOrder-next_view o sent before v taken age number mask order ends goes succeeded =
    subst (λ es. InOrder o sent ((before ++ es) ++ View age number mask ∷ [])) (sym (cut_merge o sent v taken))
    (InOrder-steady o less sent ((before ++ laid o less v top) ++ View age number mask ∷ []) (cut_prefix sent v taken)
    (InOrder-View o less (before ++ laid o less v top) v age number mask r.ordered r.view
    (subst (λ es. IsSucceededBy o (before ++ es) v age number mask) (cut_merge o sent v taken) succeeded)))
  where
    less : Sent
    less = cut sent v taken

    top : ℕ
    top = top_place (map taken v.members)

    order_then : InLooseOrder o less before
    order_then = InLooseOrder-elsewhere o sent less before v (InLooseOrder-from o sent before order) ends
        (λ s n other. cut_elsewhere sent v taken s n other)

    r : HasReached o less v (before ++ laid o less v top) top
    r = reached o less before v top order_then ends (cut_goes_on o sent before v taken goes)

-- what was laid within what is taken is a prefix
pub merge-prefix : (o : Opening) (sent : Sent) (before : List Entry) (v : GroupView) (taken : ℕ → ℕ) (p : ℕ)
    → p ≤ front_of (map taken v.members)
    → IsPrefixOf (before ++ laid o sent v p) (before ++ merge o sent v (map taken v.members))
merge-prefix o sent before v taken p below =
    let rest = laid-top o (cut sent v taken) v taken p (cut_counts sent v taken) in (
      rest.0,
      append_assoc before (laid o sent v p) rest.0 ∙
          ap (λ es. before ++ es) (ap (λ es. es ++ rest.0) same ∙ (rest.1 ∙ sym (cut_merge o sent v taken))),
    )
  where
    same : laid o sent v p ≡ laid o (cut sent v taken) v p
    same = sym (laid-same o sent (cut sent v taken) v p
        (λ q l. cut_entry o sent v taken q (front_held (map taken v.members) q (omega (arith, l, below)))))

-- the merge of what is taken stays when more is sent, where all that is taken was sent
pub merge-steady : (o : Opening) (sent now : Sent) (v : GroupView) (taken : ℕ → ℕ) → SentMoreIn v sent now
    → ((s : ℕ) → Contains v.members s → taken s ≤ length (sent s v.number))
    → merge o now v (map taken v.members) ≡ merge o sent v (map taken v.members)
unfolding held_places
merge-steady o sent now v taken more all = filter_map-agree (entry_at o now v)
    (entry_at o sent v) (is_held (map taken v.members)) (range_with_len 0 (top_place (map taken v.members)))
    (λ q held. ap (option_and_then (λ t. entry_of o t.0 t.1)) (same q held))
  where
    item : (q s : ℕ) → is_held (map taken v.members) q ≡ true → slice_get v.members (q % length v.members) ≡ Some s
        → slice_get (now s v.number) (q / length v.members) ≡ slice_get (sent s v.number) (q / length v.members)
    item q s held e =
        let test : nat_lt (q / length v.members) (taken s)
        ≡ true = sym (is_held-member taken v.members q s e) ∙ held in
        let member = Contains-slice_get v.members (q % length v.members) s e in
        let less : q / length v.members < taken s = grind (arith, test) in
        let here = slice_get-some (sent s v.number) (q / length v.members) (omega (arith, less, all s member)) in
        slice_get-prefix (sent s v.number) (now s v.number) (q / length v.members) here.0 (more s member)
        here.1 ∙ sym here.1

    same : (q : ℕ) → is_held (map taken v.members) q ≡ true → item_at now v q ≡ item_at sent v q
    same q held = by (slice_get v.members (q % length v.members)) refl
      where
        by : (z : Option ℕ) → slice_get v.members (q % length v.members) ≡ z → item_at now v q ≡ item_at sent v q
        by None e = rw e refl
        by (Some s) e = rw (e, item q s held e) refl
