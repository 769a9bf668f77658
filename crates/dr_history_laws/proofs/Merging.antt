-- The merge of all that was sent in a view is what is laid of it, and where all messages are laid it is
-- what is laid so far.
use Rattle.std.{specs.List.range_with_len, proofs.lemmas.Bool.cases_lt}
use Rattle.std.proofs.Common.{map, append-nil, ◌≡◌, subst, refl, ap, sym, ◌∙◌, ◌⊎◌, inl, inr, ℕ, ◌+◌, ◌-◌, ◌/◌, ◌%◌, ◌<◌, ◌≤◌, arith, List, [], ◌++◌, length, Option, None, Some, slice_get, option_and_then, length-append, take}
use Rattle.dr_entry.specs.declared.{end.SentItem.{SentItem, TheVariants.{Null, Index}}, entry.Entry.Entry}
use Rattle.dr_entry.proofs.{ListFacts.{AreDistinct, top_place}, ListParts.filter_map-filter}
use Rattle.dr_entry.proofs.{ListPlaces.Contains-slice_get, RankPlaces.lie_before}
use Rattle.dr_history.specs.History.{IsPrefixOf, GroupView, Sent, entry_of, item_at, merge, messages_in}
use Rattle.dr_history.specs.{Order.messages_from, Places.{is_held, held_places}, declared.opening.Opening.Opening}
use Rattle.dr_history.proofs.{Indices.{messages_in-le, item_at-parts}, NumberedLemmas.messages_from-append}
use Rattle.dr_history.proofs.Merging.{CountsAll, not_held-none, none_above, CountsAll-sent}
use Rattle.dr_history_laws.{specs.Laid.{laid, entry_at, GoesOn, HoldsAll, counts_sent}, proofs.Counting.counted}
use Rattle.dr_history_laws.proofs.LaidLemmas.{laid-more, laid-still}

-- the merge by such counts is what is laid below this place
pub merge-laid : (o : Opening) (sent : Sent) (v : GroupView) (counts : ℕ → ℕ) → CountsAll sent v counts
    → merge o sent v (map counts v.members) ≡ laid o sent v (top_place (map counts v.members))
unfolding held_places laid
merge-laid o sent v counts all = filter_map-filter (entry_at o sent v) (is_held (map counts v.members))
    (range_with_len 0 (top_place (map counts v.members)))
    (λ q gap. ap (option_and_then (λ t. entry_of o t.0 t.1)) (not_held-none sent v counts q all gap))

-- so nothing is laid there
pub laid_past : (o : Opening) (sent : Sent) (v : GroupView) (counts : ℕ → ℕ) (p : ℕ) → CountsAll sent v counts
    → top_place (map counts v.members) ≤ p → laid o sent v p ≡ laid o sent v (top_place (map counts v.members))
laid_past o sent v counts p all l =
    let top : ℕ = top_place (map counts v.members) in
    let place : top + (p - top) ≡ p = omega arith in
    ap (laid o sent v) (sym place) ∙ laid-still o sent v top (p - top)
    (λ q h. ap (option_and_then (λ t. entry_of o t.0 t.1)) (none_above sent v counts q all h))

-- and what is laid below any place is a prefix of what is laid below this one
pub laid-top : (o : Opening) (sent : Sent) (v : GroupView) (counts : ℕ → ℕ) (p : ℕ) → CountsAll sent v counts
    → IsPrefixOf (laid o sent v p) (laid o sent v (top_place (map counts v.members)))
laid-top o sent v counts p all = by (cases_lt p top)
  where
    top : ℕ
    top = top_place (map counts v.members)

    by : (p < top) ⊎ (top ≤ p) → IsPrefixOf (laid o sent v p) (laid o sent v top)
    by (inl l) =
        let place : p + (top - p) ≡ top = omega arith in
        subst (λ q. IsPrefixOf (laid o sent v p) (laid o sent v q)) place (laid-more o sent v p (top - p))
    by (inr l) = ([], append-nil (laid o sent v p) ∙ laid_past o sent v counts p all l)

-- where the history has all messages of the members, no message stands further on
none_left : (o : Opening) (sent : Sent) (before : List Entry) (v : GroupView) (p q : ℕ) → GoesOn o sent before v
    → AreDistinct v.members → HoldsAll o v (before ++ laid o sent v p) → p ≤ q → entry_at o sent v q ≡ None
none_left o sent before v p q goes distinct all l = by (item_at sent v q) refl
  where
    message : (s i : ℕ) → item_at sent v q ≡ Some (s, Index i) → ⊥
    message s i e =
        let parts = item_at-parts sent v q s (Index i) e in
        let member = Contains-slice_get v.members (q % length v.members) s parts.0 in
        let c = counted o sent before v (q % length v.members) s p goes distinct parts.0 in
        let row : c.0 ≤ q / length v.members =
        lie_before (length v.members) (q % length v.members) p q c.0 refl l c.1 in
        omega (
          arith,
          goes.index s (q / length v.members) i member parts.1,
          goes.scripted s (q / length v.members) i member parts.1,
          all s member,
          ap length (messages_from-append s before (laid o sent v p)),
          length-append (messages_from s before) (messages_from s (laid o sent v p)),
          c.2,
          messages_in-le (sent s v.number) c.0 (q / length v.members) row,
        )

    by : (z : Option (ℕ × SentItem)) → item_at sent v q ≡ z → entry_at o sent v q ≡ None
    by None e = rw e refl
    by (Some (s, Null)) e = rw e refl
    by (Some (s, Index i)) e = absurd (message s i e)

-- the merge of all that was sent is laid below some place
pub merge-laid_below : (o : Opening) (sent : Sent) (v : GroupView) → (p : ℕ)
    × (merge o sent v (counts_sent sent v) ≡ laid o sent v p)
merge-laid_below o sent v = (
  top_place (counts_sent sent v),
  merge-laid o sent v (λ s. length (sent s v.number)) (CountsAll-sent sent v),
)

-- and what is laid is the whole merge
pub laid-whole : (o : Opening) (sent : Sent) (before : List Entry) (v : GroupView) (p : ℕ)
    → GoesOn o sent before v → AreDistinct v.members
    → HoldsAll o v (before ++ laid o sent v p) → laid o sent v p ≡ merge o sent v (counts_sent sent v)
laid-whole o sent before v p goes distinct all = by (cases_lt p top)
    ∙ sym (merge-laid o sent v counts (CountsAll-sent sent v))
  where
    counts : ℕ → ℕ
    counts s = length (sent s v.number)

    top : ℕ
    top = top_place (counts_sent sent v)

    by : (p < top) ⊎ (top ≤ p) → laid o sent v p ≡ laid o sent v top
    by (inl l) =
        let place : p + (top - p) ≡ top = omega arith in
        sym (laid-still o sent v p (top - p) (λ q h. none_left o sent before v p q goes distinct all h))
        ∙ ap (laid o sent v) place
    by (inr l) = laid_past o sent v counts p (CountsAll-sent sent v) l

-- what goes on stays so where nobody sends in the view
pub goes_still : (o : Opening) (sent now : Sent) (h : List Entry) (v : GroupView)
    → ((s : ℕ) → now s v.number ≡ sent s v.number) → GoesOn o sent h v → GoesOn o now h v
goes_still o sent now h v same goes = record {
  index = λ s k i member at. goes.index s k i member (ap (λ xs. slice_get xs k) (sym (same s)) ∙ at) ∙
      ap (λ xs. length (messages_from s h) + messages_in (take k xs)) (sym (same s));
  scripted = λ s k i member at. goes.scripted s k i member (ap (λ xs. slice_get xs k) (sym (same s)) ∙ at);
}
