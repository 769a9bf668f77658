-- What is laid, place by place.
use Rattle.std.{specs.List.range_with_len, proofs.lemmas.List.Elements.filter_map-append}
use Rattle.std.proofs.Common.{◌≡◌, refl, ap, sym, ◌∙◌, ℕ, zero, suc, ◌+◌, ◌-◌, ◌<◌, ◌≤◌, arith, List, [], ◌∷◌, ◌++◌, filter_map, Option, None, Some, slice_get, option_to_list, append-nil, append_assoc}
use Rattle.dr_entry.specs.declared.{end.SentItem.TheVariants.{Null, Index}, entry.Entry.{Entry, TheVariants.Msg}}
use Rattle.dr_entry.proofs.ListFacts.{count_more, one-given}
use Rattle.dr_history.specs.History.{IsPrefixOf, GroupView, Sent, messages_of, item_at}
use Rattle.dr_history.specs.declared.opening.Opening.{Opening}
use Rattle.dr_history_laws.specs.Laid.{laid, entry_at}

-- one place more adds its entry, if it has one
pub laid-next : (o : Opening) (sent : Sent) (v : GroupView) (p : ℕ)
    → laid o sent v (p + 1) ≡ laid o sent v p ++ option_to_list (entry_at o sent v p)
unfolding laid
laid-next o sent v p = rw (count_more p, filter_map-append (entry_at o sent v) (range_with_len 0 p) (p ∷ []))
    (ap (λ es. filter_map (entry_at o sent v) (range_with_len 0 p) ++ es) (one-given (entry_at o sent v) p))

-- below place 0 there is nothing
pub laid-none : (o : Opening) (sent : Sent) (v : GroupView) → laid o sent v 0 ≡ []
unfolding laid
laid-none o sent v = refl

-- one place more, by what its entry is
laid-entry : (o : Opening) (sent : Sent) (v : GroupView) (p : ℕ) (e : Option Entry) → entry_at o sent v p ≡ e
    → laid o sent v (suc p) ≡ laid o sent v p ++ option_to_list e
laid-entry o sent v p e is =
    let one : suc p ≡ p + 1 = omega arith in
    ap (laid o sent v) one ∙ (laid-next o sent v p
    ∙ ap (λ (r : Option Entry). laid o sent v p ++ option_to_list r) is)

-- a place with no item adds nothing
pub laid-absent : (o : Opening) (sent : Sent) (v : GroupView) (p : ℕ) → item_at sent v p ≡ None
    → laid o sent v (suc p) ≡ laid o sent v p
laid-absent o sent v p e = laid-entry o sent v p None (rw e refl) ∙ append-nil (laid o sent v p)

-- nor does a null
pub laid-null : (o : Opening) (sent : Sent) (v : GroupView) (p s : ℕ) → item_at sent v p ≡ Some (s, Null)
    → laid o sent v (suc p) ≡ laid o sent v p
laid-null o sent v p s e = laid-entry o sent v p None (rw e refl) ∙ append-nil (laid o sent v p)

-- a message adds its entry
pub laid-message : (o : Opening) (sent : Sent) (v : GroupView) (p s i : ℕ) (b : List ℕ)
    → item_at sent v p ≡ Some (s, Index i) → slice_get (messages_of o s) i ≡ Some b
    → laid o sent v (suc p) ≡ laid o sent v p ++ Msg s i b ∷ []
laid-message o sent v p s i b e bytes = laid-entry o sent v p (Some (Msg s i b)) (rw (e, bytes) refl)

-- more places lay more behind
pub laid-more : (o : Opening) (sent : Sent) (v : GroupView) (p d : ℕ)
    → IsPrefixOf (laid o sent v p) (laid o sent v (p + d))
laid-more o sent v p zero = let same : p ≡ p + 0 = omega arith in
    ([], append-nil (laid o sent v p) ∙ ap (laid o sent v) same)
laid-more o sent v p (suc d) =
    let rest = laid-more o sent v p d in
    let next : suc (p + d) ≡ p + suc d = omega arith in (
      rest.0 ++ option_to_list (entry_at o sent v (p + d)),
      sym (append_assoc (laid o sent v p) rest.0 (option_to_list (entry_at o sent v (p + d)))) ∙
          (ap (λ es. es ++ option_to_list (entry_at o sent v (p + d))) rest.1 ∙
          (sym (laid-entry o sent v (p + d) (entry_at o sent v (p + d)) refl) ∙ ap (laid o sent v) next)),
    )

-- so a history that ends earlier in the view is a prefix
pub laid-prefix : (o : Opening) (sent : Sent) (before : List Entry) (v : GroupView) (p q : ℕ) → p ≤ q
    → IsPrefixOf (before ++ laid o sent v p) (before ++ laid o sent v q)
laid-prefix o sent before v p q l =
    let rest = laid-more o sent v p (q - p) in
    let place : p + (q - p) ≡ q = omega arith in (
      rest.0,
      append_assoc before (laid o sent v p) rest.0 ∙ ap (λ es. before ++ es) (rest.1 ∙ ap (laid o sent v) place),
    )

-- places without entries lay nothing
pub laid-still : (o : Opening) (sent : Sent) (v : GroupView) (p d : ℕ)
    → ((q : ℕ) → p ≤ q → entry_at o sent v q ≡ None) → laid o sent v (p + d) ≡ laid o sent v p
laid-still o sent v p zero none = let same : p + 0 ≡ p = omega arith in ap (laid o sent v) same
laid-still o sent v p (suc d) none =
    let next : p + suc d ≡ suc (p + d) = omega arith in
    ap (laid o sent v) next ∙ (laid-entry o sent v (p + d) None (none (p + d) (omega arith)) ∙
    (append-nil (laid o sent v (p + d)) ∙ laid-still o sent v p d none))

-- what is laid goes by the entries of the places
pub laid-same : (o : Opening) (sent now : Sent) (v : GroupView) (p : ℕ)
    → ((q : ℕ) → q < p → entry_at o now v q ≡ entry_at o sent v q) → laid o now v p ≡ laid o sent v p
laid-same o sent now v zero same = laid-none o now v ∙ sym (laid-none o sent v)
laid-same o sent now v (suc p) same = laid-entry o now v p (entry_at o now v p) refl ∙
    (ap (λ es. es ++ option_to_list (entry_at o now v p)) (laid-same o sent now v p (λ q l. same q (omega arith))) ∙
    sym (laid-entry o sent v p (entry_at o now v p) (sym (same p (omega arith)))))
