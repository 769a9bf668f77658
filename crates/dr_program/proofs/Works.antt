-- What a member is behind a deed, and which deeds are left to it in the turn.
use Rattle.std.specs.Prelude.{slice_index_or}
use Rattle.std.proofs.Common.{◌≡◌, ℕ, refl, ap, ◌+◌, ◌&&◌, not, Bool, true, false, if◌then◌else◌, length, ◌-◌}
use Rattle.dr_entry.proofs.{BoolFacts.not_both, NumberFacts.{all_below, each_below}}
use Rattle.dr_machine.specs.declared.event.Act.TheVariants as acts
use Rattle.dr_program.specs.{Running.goes, Turn.{IsIn, columns_in, part_of, rows_in, after, turn_begins}}
use Rattle.dr_program.{specs.declared.place.{Part.Part, Place.Place, TheConstants.TURN}, proofs.Order.part_number}
use Rattle.dr_program.proofs.Parts.{is_take, begin, only_place, is_receive, is_left, next_part, is_publish}
use Rattle.dr_program.specs.declared.place.Part.TheVariants as parts

-- a place of the take's part is its first
pub take_place : (n k : ℕ) (p : Place) → IsIn n k p → part_of p ≡ parts.Take → p ≡ begin 0
unfolding all_below
take_place n k p is at = only_place n k 0 p is (ap (rows_in n) at) (ap (columns_in k) at)
    (part_number is_take 0 p refl is.part (ap is_take at))

-- none of those parts is followed by the one where items are received
after_receives : (n k : ℕ) (p : Place) → IsIn n k p → is_left (part_of p) ≡ true
    → part_of (after n k p) ≡ parts.Receive → part_of p ≡ parts.Receive
unfolding all_below
after_receives n k p is left at = by _ _ at
  where
    by : (b d : Bool) → part_of (if b then record p { column = p.column + 1 }
        else (if d then record p { row = p.row + 1; column = 0 }
        else record { part = next_part p.part; row = 0; column = 0 })) ≡ parts.Receive → part_of p ≡ parts.Receive
    by true d e = e
    by false true e = e
    by false false e = absurd (not_both _ _
        (each_below (length TURN) p.part (λ j. not (is_left (slice_index_or TURN j turn_begins)
        && is_receive (slice_index_or TURN (next_part j) turn_begins))) refl is.part) left (ap is_receive e))

-- so where a deed leaves the member where items are received, it was such a receive
pub goes_receives : (n k : ℕ) (p : Place) → IsIn n k p → part_of (goes n k (part_of p) p) ≡ parts.Receive
    → part_of p ≡ parts.Receive
unfolding all_below
goes_receives n k p is at = by (part_of p) refl at
  where
    by : (x : Part) → part_of p ≡ x → part_of (goes n k x p) ≡ parts.Receive → part_of p ≡ parts.Receive
    by parts.Look e at = after_receives n k p is (ap is_left e) at
    by parts.Append e at = after_receives n k p is (ap is_left e) at
    by parts.Vote e at = after_receives n k p is (ap is_left e) at
    by parts.Push e at = after_receives n k p is (ap is_left e) at
    by (parts.Do acts.Beat) e at = after_receives n k p is (ap is_left e) at
    by (parts.Do acts.Publish) e at = absurd (not_both _ _
        (each_below (length TURN) p.part (λ j. not (is_publish (slice_index_or TURN j turn_begins)
        && is_receive (slice_index_or TURN (j - 1) turn_begins))) refl is.part) (ap is_publish e) (ap is_receive at))
    by (parts.Do a) e at = at
    by parts.Take e at = absurd (cc at)
    by x e at = at
