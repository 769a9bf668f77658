-- The order of the places of a turn.
use Rattle.std.proofs.Common.{◌≡◌, refl, subst, inl, inr, ◌⊎◌, ℕ, ◌+◌, ◌<◌, Bool, true, false, if◌then◌else◌, nat_lt, arith}
use Rattle.std.proofs.lemmas.Bool.Decides.{nat_tests}
use Rattle.dr_entry.proofs.NumberFacts.{IsLess, split_column}
use Rattle.dr_program.specs.{Turn.{IsIn, after, columns_in, part_of, rows_in}, declared.place.Place.Place}
use Rattle.dr_turn_laws.specs.Swept.{IsBefore}

split_place : (q p : Place) → q.part ≡ p.part → IsLess q.row q.column p.row (p.column + 1) → IsBefore q p ⊎ (q ≡ p)
split_place q p same before = by (split_column q.row q.column p.row p.column before)
  where
    by : IsLess q.row q.column p.row p.column ⊎ ((q.row ≡ p.row) × (q.column ≡ p.column)) → IsBefore q p ⊎ (q ≡ p)
    by (inl less) = inl (inr (same, less))
    by (inr at) = inr (λ z. record { part = same z; row = at.0 z; column = at.1 z })

-- what comes before the next place comes before this one, or is it
pub before_after : (n k : ℕ) (q p : Place) → IsIn n k q → IsBefore q (after n k p) → IsBefore q p ⊎ (q ≡ p)
before_after n k q p is = by _ _ _ refl refl
  where
    column : q.part ≡ p.part → q.column < columns_in k (part_of p)
    column same = subst (λ a. q.column < columns_in k (part_of (record q { part = a }))) same is.column

    row : q.part ≡ p.part → q.row < rows_in n (part_of p)
    row same = subst (λ a. q.row < rows_in n (part_of (record q { part = a }))) same is.row

    next_row : (j d i c k : ℕ) → d < k → nat_lt (c + 1) k ≡ false
        → (j < i + 1) ⊎ ((j ≡ i + 1) × (d < 0)) → (j < i) ⊎ ((j ≡ i) × (d < c + 1))
    next_row j d i c k l last before = grind (arith, nat_tests, l, last, before)

    last_row : (j d i c n k : ℕ) → j < n → d < k → nat_lt (i + 1) n ≡ false → nat_lt (c + 1) k ≡ false
        → (j < i) ⊎ ((j ≡ i) × (d < c + 1))
    last_row j d i c n k l h low last = grind (arith, nat_tests, l, h, low, last)

    next_part : (a b j d : ℕ) → (a < b + 1) ⊎ ((a ≡ b + 1) × ((j < 0) ⊎ ((j ≡ 0) × (d < 0)))) → (a < b) ⊎ (a ≡ b)
    next_part a b j d before = grind (arith, before)

    nothing : (a j d : ℕ) → (a < 0) ⊎ ((a ≡ 0) × ((j < 0) ⊎ ((j ≡ 0) × (d < 0)))) → ⊥
    nothing a j d before = grind (arith, before)

    behind : nat_lt (p.column + 1) (columns_in k (part_of p)) ≡ false → nat_lt (p.row + 1) (rows_in n
        (part_of p)) ≡ false → (q.part < p.part) ⊎ (q.part ≡ p.part) → IsBefore q p ⊎ (q ≡ p)
    behind e f (inl earlier) = inl (inl earlier)
    behind e f (inr same) = split_place q p same (last_row q.row q.column p.row p.column
        (rows_in n (part_of p)) (columns_in k (part_of p)) (row same) (column same) f e)

    by : (x y z : Bool) → nat_lt (p.column + 1) (columns_in k (part_of p)) ≡ x → nat_lt (p.row + 1) (rows_in n
        (part_of p)) ≡ y → IsBefore q (if x then record p { column = p.column + 1 } else
        (if y then record p { row = p.row + 1; column = 0 }
        else record { part = if z then p.part + 1 else 0; row = 0; column = 0 })) → IsBefore q p ⊎ (q ≡ p)
    by true y z e f (inl earlier) = inl (inl earlier)
    by true y z e f (inr here) = split_place q p here.0 here.1
    by false true z e f (inl earlier) = inl (inl earlier)
    by false true z e f (inr here) = split_place q p here.0
        (next_row q.row q.column p.row p.column (columns_in k (part_of p)) (column here.0) e here.1)
    by false false true e f before = behind e f (next_part q.part p.part q.row q.column before)
    by false false false e f before = absurd (nothing q.part q.row q.column before)
