-- The order of a turn: each place but the last has more places left than the one after it.
use Rattle.std.proofs.Common.{◌≡◌, refl, ap, ℕ, ◌+◌, ◌<◌, ◌≤◌, Bool, true, false, if◌then◌else◌, nat_lt, length, drop, arith}
use Rattle.std.proofs.lemmas.Bool.Decides.{nat_tests}
use Rattle.dr_entry.proofs.NumberFacts.{within}
use Rattle.dr_program.specs.Turn.{after, columns_in, IsIn, part_of, places_in, rows_in, turn_begins, turn_ends}
use Rattle.dr_program.specs.declared.place.{Place.Place, TheConstants.TURN}
use Rattle.dr_program.proofs.{Order.{from_part, few_places, take_first}, Parts.is_take}
use Rattle.dr_turn.specs.Search.{left}

-- a turn has enough places
pub left_small : (n k : ℕ) (p : Place) → IsIn n k p → left n k p ≤ places_in n k TURN
unfolding left
left_small n k p is = omega (
  arith,
  from_part n k p.part (p.part + 1) TURN turn_begins (omega arith) is.part,
  few_places n k p.part TURN,
)

-- at each place of a turn some places are left
pub left_some : (n k : ℕ) (p : Place) → IsIn n k p → 0 < left n k p
unfolding left
left_some n k p is =
    omega (arith, within (rows_in n (part_of p)) (columns_in k (part_of p)) p.row p.column is.row is.column)

falls : (n k : ℕ) (p : Place) (x y z : Bool) → nat_lt (p.column + 1) (columns_in k (part_of p)) ≡ x
    → nat_lt (p.row + 1) (rows_in n (part_of p)) ≡ y → nat_lt (p.part + 1) (length TURN) ≡ z
    → IsIn n k p → p.part + 1 < length TURN → left n k (if x then record p { column = p.column + 1 } else
    (if y then record p { row = p.row + 1; column = 0 } else record {
      part = if z then p.part + 1 else 0;
      row = 0;
      column = 0;
    })) < left n k p
unfolding left
falls n k p true y z a b c is more =
    omega (arith, within (rows_in n (part_of p)) (columns_in k (part_of p)) p.row p.column is.row is.column)
falls n k p false true z a b c is more =
    let columns = columns_in k (part_of p) in
    omega (arith, within (rows_in n (part_of p)) columns p.row p.column is.row is.column, is.column)
falls n k p false false true a b c is more = omega (
  arith,
  from_part n k (p.part + 1) (p.part + 1 + 1) TURN turn_begins (omega arith) more,
  within (rows_in n (part_of p)) (columns_in k (part_of p)) p.row p.column is.row is.column,
)
falls n k p false false false a b c is more = absurd (grind (arith, nat_tests, more))

-- before the last part, the next place has fewer places left
pub left_falls : (n k : ℕ) (p : Place) → IsIn n k p → p.part + 1 < length TURN → left n k (after n k p) < left n k p
left_falls n k p is more = falls n k p _ _ _ refl refl refl is more

-- ---- which part has which number

-- and behind it more places are left than where a turn ends
pub left_take : (n k : ℕ) (p : Place) → IsIn n k p → is_take (part_of p) ≡ true → left n k turn_ends < left n k p
unfolding left
left_take n k p is at = omega (
  arith,
  from_part n k 17 18 TURN turn_begins refl (omega arith),
  few_places n k 16 (drop 1 TURN),
  ap (λ i. places_in n k (drop (i + 1) TURN)) (take_first p.part is.part at),
  within (rows_in n (part_of p)) (columns_in k (part_of p)) p.row p.column is.row is.column,
)
