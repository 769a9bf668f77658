-- The rest of a view's merge, place by place, brings a history that has come to a place to the whole merge.
use Rattle.std.{specs.List.range_with_len, proofs.lemmas.Bool.cases_lt}
use Rattle.std.proofs.Common.{◌≡◌, ap, sym, ◌∙◌, ◌⊎◌, inl, inr, ℕ, suc, ◌+◌, ◌-◌, ◌<◌, ◌≤◌, arith, true, false, fold, List, ◌++◌, length, map, filter, Some, option_to_list, append_assoc}
use Rattle.dr_entry.{specs.declared.{end.SentItem.TheVariants.Index, entry.Entry.Entry}, proofs.Entries.rest-steps}
use Rattle.dr_entry.proofs.ListFacts.{AreDistinct, top_place}
use Rattle.dr_history.specs.{History.{GroupView, Sent, item_at, merge}, Order.messages_from}
use Rattle.dr_history.specs.{Places.{front_of, is_held, rest_places}, declared.opening.Opening.Opening}
use Rattle.dr_history.proofs.{Cutting.{cut, cut_counts, cut_held}, Fronts.front_held, Merging.not_held-none}
use Rattle.dr_history_laws.{specs.Laid.{GoesOn, entry_at, laid}, proofs.Counting.index-next}
use Rattle.dr_history_laws.proofs.Cutting.{cut_entry, cut_goes_on, cut_merge}
use Rattle.dr_history_laws.proofs.{LaidLemmas.{laid-absent, laid-next, laid-same}, Merging.laid_past}

-- what adds the entry of each place that is taken, where its message is the next one of its sender, brings
-- the rest of the merge
pub rest-merged : (o : Opening) (sent : Sent) (head : List Entry) (v : GroupView)
    (taken : ℕ → ℕ) (p : ℕ) (add : List Entry → ℕ → List Entry) → GoesOn o sent head v → AreDistinct v.members
    → p ≤ front_of (map taken v.members) → ((q : ℕ) (h : List Entry) → is_held (map taken v.members) q ≡ true
    → ((s i : ℕ) → item_at sent v q ≡ Some (s, Index i) → i ≡ length (messages_from s h))
    → add h q ≡ h ++ option_to_list (entry_at o sent v q)) → fold add (head
    ++ laid o sent v p) (rest_places (map taken v.members) p) ≡ head ++ merge o sent v (map taken v.members)
unfolding rest_places
rest-merged o sent head v taken p add goes distinct below adds =
    ap (λ es. fold add (head ++ es) (filter (is_held counts) (range_with_len p (top - p)))) same
    ∙ rest-steps add (is_held counts) at p (top - p) more none ∙ whole (cases_lt p top)
  where
    counts : List ℕ
    counts = map taken v.members

    top : ℕ
    top = top_place (map taken v.members)

    less : Sent
    less = cut sent v taken

    at : ℕ → List Entry
    at q = head ++ laid o (cut sent v taken) v q

    same : laid o sent v p ≡ laid o (cut sent v taken) v p
    same = sym (laid-same o sent (cut sent v taken) v p
        (λ q l. cut_entry o sent v taken q (front_held (map taken v.members) q (omega (arith, l, below)))))

    more : (q : ℕ) → is_held (map taken v.members) q ≡ true
        → add (head ++ laid o (cut sent v taken) v q) q ≡ head ++ laid o (cut sent v taken) v (q + 1)
    more q held = adds q (at q) held (λ s i e. index-next o less head v q s i
        (cut_goes_on o sent head v taken goes) distinct (cut_held sent v taken q held ∙ e))
        ∙ ap (λ r. at q ++ option_to_list r) (sym (cut_entry o sent v taken q held)) ∙ append_assoc head
        (laid o less v q) (option_to_list (entry_at o less v q)) ∙ ap (λ es. head ++ es) (sym (laid-next o less v q))

    none : (q : ℕ) → is_held (map taken v.members) q ≡ false
        → head ++ laid o (cut sent v taken) v (q + 1) ≡ head ++ laid o (cut sent v taken) v q
    none q gap = let one : q + 1 ≡ suc q = omega arith in
        ap (λ n. head ++ laid o less v n) one ∙ ap (λ es. head ++ es) (laid-absent o less v q
        (not_held-none less v taken q (cut_counts sent v taken) gap))

    whole : (p < top_place (map taken v.members)) ⊎ (top_place (map taken v.members) ≤ p)
        → at (p + (top_place (map taken v.members) - p)) ≡ head ++ merge o sent v (map taken v.members)
    whole (inl l) =
        let place : p + (top - p) ≡ top = omega arith in
        ap at place ∙ ap (λ es. head ++ es) (sym (cut_merge o sent v taken))
    whole (inr l) =
        let place : p + (top - p) ≡ p = omega (arith, l) in
        ap at place ∙ ap (λ es. head ++ es)
        (laid_past o less v taken p (cut_counts sent v taken) l ∙ sym (cut_merge o sent v taken))
