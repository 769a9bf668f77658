-- What two lists have in common, and the cut that is due.
use Rattle.std.{specs.Prelude.min, proofs.lemmas.{Bool.cases_lt, List.take_all, Option.{same_Some, slice_get_within}}}
use Rattle.std.proofs.Common.{◌≡◌, ap, sym, ◌∙◌, subst, inl, inr, ⊎_elim, ℕ, ◌<◌, ◌≤◌, arith, List, [], length, length-take, ◌++◌, take, take_at, drop, append-nil, refl, take-append-drop}
use Rattle.dr_entry.{specs.declared.entry.Entry.Entry, proofs.ListPlaces.slice_get-some}
use Rattle.dr_history.specs.{History.IsPrefixOf, Restarting.{AreAlong, DifferAt}}
use Rattle.dr_history.proofs.{Keeping.{prefix_beside, prefix_shorter}, Lists.slice_get-prefix}
use Rattle.dr_log_bytes.specs.Content.{OnLog}
use Rattle.dr_opening.specs.CuttingBack.{IsCommonFront, IsCutDue}

-- lists that differ have in common what stands before that place
pub common_before : (g h : List Entry) (place : ℕ) → DifferAt g h place → IsCommonFront g h (take place g)
common_before g h place differ = record {
  of_one = of_one;
  of_other = (drop place h, ap (λ l. l ++ drop place h) differ.same ∙ take-append-drop place h);
  longest = λ front of_g of_h. ⊎_elim (λ (l : place < length front).
      let e = slice_get-some front place l in
      absurd (differ.apart (same_Some differ.one differ.other (sym differ.in_one
      ∙ slice_get-prefix front g place e.0 of_g e.1 ∙ sym (slice_get-prefix front h place e.0 of_h e.1)
      ∙ differ.in_other)))) (λ (s : length front ≤ place). prefix_beside front (take place g) g of_g of_one
      (omega (arith, s, length-take place g, slice_get_within g place differ.one differ.in_one)))
      (cases_lt place (length front));
}
  where
    of_one : IsPrefixOf (take place g) g
    of_one = (drop place g, take-append-drop place g)

-- and two of which one is a front of the other have that one
pub common_along : (g h : List Entry) (n : ℕ) → AreAlong g h → n ≡ min (length g) (length h)
    → IsCommonFront g h (take n g)
common_along g h n (inl part) is =
    subst (IsCommonFront g h) (sym (take_all n g (omega (arith, is, prefix_shorter g h part))))
    (record { of_one = ([], append-nil g); of_other = part; longest = λ front of_g of_h. of_g })
common_along g h n (inr part) is = subst (IsCommonFront g h) (sym here)
    (record { of_one = part; of_other = ([], append-nil h); longest = λ front of_g of_h. of_h })
  where
    here : take n g ≡ h
    here = ap (λ k. take k g) (omega (arith, is, prefix_shorter h g part)) ∙ ap (take (length h)) (sym part.1)
        ∙ take_at h part.0 (length h) refl

-- and where it isn't a cut is due
pub due_if_less : (entries : List Entry) (c : OnLog) (n : ℕ) → IsCommonFront c.entries entries (take n c.entries)
    → n < length c.entries → IsCutDue entries c n
due_if_less entries c n common less = record {
  beside = λ part. absurd (omega (
    arith,
    less,
    length-take n c.entries,
    prefix_shorter c.entries (take n c.entries) (common.longest c.entries ([], append-nil c.entries) part),
  ));
  common = common;
}
