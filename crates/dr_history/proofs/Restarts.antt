-- Lists of entries of which one is a front of the other.
use Rattle.std.{specs.Prelude.min, proofs.lemmas.{Bool.cases_lt, List.{take-append-drop, take_all}, Option.same_Some}}
use Rattle.std.proofs.Common.{◌≡◌, ap, sym, ◌∙◌, ℕ, ◌+◌, ◌<◌, ◌≤◌, inl, inr, ⊎_elim, arith, List, ◌++◌, length, take, drop, slice_get, ◌⊎◌, ◌-◌, [], ◌∷◌, length-append, append-nil}
use Rattle.dr_entry.{specs.declared.entry.Entry.Entry, proofs.ListPlaces.slice_get-take}
use Rattle.dr_history.{specs.{History.IsPrefixOf, Restarting.{AreAlong, DifferAt}}, proofs.Lists.slice_get-prefix}

-- two lists that are the same as far as the shorter one goes
pub along_if_same : (g h : List Entry) (n : ℕ) → min (length g) (length h) ≤ n → take n g ≡ take n h → AreAlong g h
along_if_same g h n l same = ⊎_elim (λ (k : length g < length h). inl (
  drop n h,
  ap (λ (xs : List Entry). xs ++ drop n h) (sym (take_all n g (omega (arith, k, l))) ∙ same) ∙ take-append-drop n h,
)) (λ (k : length h ≤ length g). inr (
  drop n g,
  ap (λ (xs : List Entry). xs ++ drop n g) (sym (take_all n h (omega (arith, k, l))) ∙ sym same)
      ∙ take-append-drop n g,
)) (cases_lt (length g) (length h))

-- the other way round
pub turned : (x y : List Entry) → AreAlong x y → AreAlong y x
turned x y (inl p) = inr p
turned x y (inr q) = inl q

-- they are not along one another
pub differ_not_along : (g h : List Entry) (p : ℕ) → DifferAt g h p → AreAlong g h → ⊥
differ_not_along g h p d (inl q) =
    d.apart (same_Some d.one d.other (sym (slice_get-prefix g h p d.one q d.in_one) ∙ d.in_other))
differ_not_along g h p d (inr q) =
    d.apart (same_Some d.one d.other (sym d.in_one ∙ slice_get-prefix h g p d.other q d.in_other))

no_earlier_difference : (g h : List Entry) (p q : ℕ) → DifferAt g h p → DifferAt g h q → p < q → ⊥
no_earlier_difference g h p q a b l = a.apart (same_Some a.one a.other (sym (slice_get-take q g p l ∙ a.in_one)
    ∙ (ap (λ (xs : List Entry). slice_get xs p) b.same ∙ (slice_get-take q h p l ∙ a.in_other))))

-- and the first place at which they differ is one
pub one_difference : (g h : List Entry) (p q : ℕ) → DifferAt g h p → DifferAt g h q → p ≡ q
one_difference g h p q a b = by (apart p q)
  where
    apart : (i j : ℕ) → (i < j) ⊎ ((i ≡ j) ⊎ (j < i))
    apart i j = grind arith

    by : (p < q) ⊎ ((p ≡ q) ⊎ (q < p)) → p ≡ q
    by (inl l) = absurd (no_earlier_difference g h p q a b l)
    by (inr (inl e)) = e
    by (inr (inr l)) = absurd (no_earlier_difference g h q p b a l)

same-long : (xs ys : List Entry) → IsPrefixOf xs ys → length ys ≤ length xs → xs ≡ ys
same-long xs ys (rest, e) l = by rest e
  where
    by : (rest : List Entry) → xs ++ rest ≡ ys → xs ≡ ys
    by [] e = sym (append-nil xs) ∙ e
    by (x ∷ rest) e = absurd (omega (arith, l, ap length e, length-append xs (x ∷ rest)))

pub one-long : (xs ys : List Entry) → AreAlong xs ys → length xs ≤ length ys → length ys ≤ length xs → xs ≡ ys
one-long xs ys (inl p) l k = same-long xs ys p k
one-long xs ys (inr p) l k = sym (same-long ys xs p l)
