-- The order of a turn: each place but the last has more places left than the one after it.
use Rattle.std.{specs.Prelude.slice_index_or, proofs.lemmas.Bool.{and_parts, Decides.nat_tests}}
use Rattle.std.proofs.Common.{ℕ, ◌*◌, ◌≡◌, refl, zero, suc, ◌+◌, ◌<◌, List, [], ◌∷◌, length, drop, arith, ◌≤◌, Bool, true, false, if◌then◌else◌, nat_lt, ◌≢◌, sym, ◌==◌, ◌||◌, not, ap, ◌-◌, ◌&&◌, ◌∙◌}
use Rattle.dr_entry.proofs.{BoolFacts.implied, NumberFacts.{all_below, each_below, within}}
use Rattle.dr_machine.specs.declared.event.Act.TheVariants as acts
use Rattle.dr_program.specs.Turn.{columns_in, rows_in, places_in, IsIn, part_of, turn_begins, after, is_beat, turn_ends}
use Rattle.dr_program.specs.declared.place.{Part.Part, Place.Place, TheConstants.TURN}
use Rattle.dr_program.proofs.Parts.{is_give, give_to, is_append_part, begin, only_place, is_vote, is_propose, is_accept, accept_test, is_take}
use Rattle.dr_program.specs.declared.place.Part.TheVariants as parts

-- the places of a part
abbrev size : ℕ → ℕ → Part → ℕ
size n k p = rows_in n p * columns_in k p

-- the parts from a number on are the one there and those behind it
pub from_part : (n k i j : ℕ) (ps : List Part) (d : Part) → j ≡ suc i → i < length ps
    → places_in n k (drop i ps) ≡ size n k (slice_index_or ps i d) + places_in n k (drop j ps)
unfolding places_in
from_part n k i j [] d e l = absurd (omega arith)
from_part n k zero j (p ∷ ps) d e l = rw e refl
from_part n k (suc i) j (p ∷ ps) d e l = rw e (from_part n k i (suc i) ps d refl (omega arith))

pub few_places : (n k i : ℕ) (ps : List Part) → places_in n k (drop i ps) ≤ places_in n k ps
unfolding places_in
few_places n k zero ps = omega arith
few_places n k (suc i) [] = omega arith
few_places n k (suc i) (p ∷ ps) = omega (arith, few_places n k i ps)

-- each part has a place
some_place : (n k : ℕ) (p : Part) → 0 < n → 0 < k → (0 < rows_in n p) × (0 < columns_in k p)
some_place n k parts.Look a b = (a, b)
some_place n k parts.Receive a b = (a, omega arith)
some_place n k parts.Push a b = (a, b)
some_place n k parts.Give a b = (a, omega arith)
some_place n k p a b = (omega arith, omega arith)

comes : (n k : ℕ) (p : Place) (x y z : Bool) → nat_lt (p.column + 1) (columns_in k (part_of p)) ≡ x
    → nat_lt (p.row + 1) (rows_in n (part_of p)) ≡ y → nat_lt (p.part + 1) (length TURN) ≡ z
    → 0 < n → 0 < k → IsIn n k p → IsIn n k (if x then record p { column = p.column + 1 } else
    (if y then record p { row = p.row + 1; column = 0 } else record {
      part = if z then p.part + 1 else 0;
      row = 0;
      column = 0;
    }))
comes n k p true y z a b c some wide is =
    record { part = is.part; row = is.row; column = grind (arith, nat_tests, a) }
comes n k p false true z a b c some wide is =
    record { part = is.part; row = grind (arith, nat_tests, b); column = (some_place n k (part_of p) some wide).1 }
comes n k p false false true a b c some wide is = record {
  part = grind (arith, nat_tests, c);
  row = (some_place n k (slice_index_or TURN (p.part + 1) turn_begins) some wide).0;
  column = (some_place n k (slice_index_or TURN (p.part + 1) turn_begins) some wide).1;
}
comes n k p false false false a b c some wide is = record {
  part = omega arith;
  row = (some_place n k (slice_index_or TURN 0 turn_begins) some wide).0;
  column = (some_place n k (slice_index_or TURN 0 turn_begins) some wide).1;
}

-- the place after one of a turn is one of a turn
pub after_in : (n k : ℕ) (p : Place) → 0 < n → 0 < k → IsIn n k p → IsIn n k (after n k p)
after_in n k p some wide is = comes n k p _ _ _ refl refl refl some wide is

-- the order comes to a part only from the part before it, or from a place of its own
arrives : (n k t : ℕ) (p : Place) (x y z : Bool) → (if x then record p { column = p.column + 1 } else
    (if y then record p { row = p.row + 1; column = 0 } else record {
      part = if z then p.part + 1 else 0;
      row = 0;
      column = 0;
    })).part ≡ t → 0 < t → t ≢ p.part → p.part + 1 ≡ t
arrives n k t p true y z e some other = absurd (other (sym e))
arrives n k t p false true z e some other = absurd (other (sym e))
arrives n k t p false false true e some other = e
arrives n k t p false false false e some other = absurd (omega (arith, e, some))

-- the turn begins at the last part alone
pub beat_last : (i : ℕ) → i < length TURN → is_beat (slice_index_or TURN i turn_begins) ≡ true → i + 1 ≡ length TURN
unfolding all_below
beat_last i l e = grind (
  arith,
  each_below (length TURN) i (λ j. not (is_beat (slice_index_or TURN j turn_begins))
      || (j + 1 == length TURN)) refl l,
  e,
)

pub take_first : (i : ℕ) → i < length TURN → is_take (slice_index_or TURN i turn_begins) ≡ true → i ≡ 0
unfolding all_below
take_first i l e = grind (
  arith,
  nat_tests,
  each_below (length TURN) i (λ j. not (is_take (slice_index_or TURN j turn_begins)) || (j == 0)) refl l,
  e,
)

-- where a turn ends is a place of it
pub ends_in : (n k : ℕ) → IsIn n k turn_ends
ends_in n k = record { part = omega arith; row = omega arith; column = omega arith }

-- so before a turn the member was at the place of the end with no turn left
pub after_beat : (n k : ℕ) (p : Place) → IsIn n k (after n k p) → is_beat (part_of p) ≡ false
    → is_beat (part_of (after n k p)) ≡ true → part_of p ≡ parts.Spent
after_beat n k p is other e =
    let last = beat_last (after n k p).part is.part e in
    let before : p.part + 1 ≡ length TURN - 1 = arrives n k (length TURN - 1) p (nat_lt (p.column + 1)
    (columns_in k (part_of p))) (nat_lt (p.row + 1) (rows_in n (part_of p))) (nat_lt (p.part + 1) (length TURN))
    (omega (arith, last)) (omega arith) (λ (same : length TURN - 1 ≡ p.part). absurd
    (cc (ap (λ i. is_beat (slice_index_or TURN i turn_begins)) same, other))) in
    let at : p.part ≡ length TURN - 2 = omega (arith, before) in ap (λ i. slice_index_or TURN i turn_begins) at

-- where each place of a part is one, the next place is of the next part
nexts : (n k : ℕ) (p : Place) (x y z : Bool) → nat_lt (p.column + 1) (columns_in k (part_of p)) ≡ x
    → nat_lt (p.row + 1) (rows_in n (part_of p)) ≡ y → nat_lt (p.part + 1) (length TURN) ≡ z
    → rows_in n (part_of p) ≡ 1 → columns_in k (part_of p) ≡ 1 → p.part + 1 < length TURN
    → (if x then record p { column = p.column + 1 } else
    (if y then record p { row = p.row + 1; column = 0 } else record {
      part = if z then p.part + 1 else 0;
      row = 0;
      column = 0;
    })).part ≡ p.part + 1
nexts n k p true y z a b c rows columns more = absurd (grind (arith, nat_tests, a, columns))
nexts n k p false true z a b c rows columns more = absurd (grind (arith, nat_tests, b, rows))
nexts n k p false false true a b c rows columns more = refl
nexts n k p false false false a b c rows columns more = absurd (grind (arith, nat_tests, c, more))

pub next_part : (n k : ℕ) (p : Place) → rows_in n (part_of p) ≡ 1 → columns_in k (part_of p) ≡ 1
    → p.part + 1 < length TURN → part_of (after n k p) ≡ slice_index_or TURN (p.part + 1) turn_begins
next_part n k p rows columns more =
    ap (λ i. slice_index_or TURN i turn_begins) (nexts n k p _ _ _ refl refl refl rows columns more)

-- where behind each part of one kind there is one of another kind, so it is behind this one
pub follows : (here next : Part → Bool) → all_below (length TURN) (λ j. not (here (slice_index_or TURN j turn_begins))
    || (nat_lt (j + 1) (length TURN) && next (slice_index_or TURN (j + 1) turn_begins))) ≡ true
    → (i : ℕ) → i < length TURN → here (slice_index_or TURN i turn_begins) ≡ true
    → (i + 1 < length TURN) × (next (slice_index_or TURN (i + 1) turn_begins) ≡ true)
follows here next all i l e =
    let both = and_parts (nat_lt (i + 1) (length TURN)) (next (slice_index_or TURN (i + 1) turn_begins))
    (implied _ _ (each_below (length TURN) i (λ j. not (here (slice_index_or TURN j turn_begins))
    || (nat_lt (j + 1) (length TURN) && next (slice_index_or TURN (j + 1) turn_begins))) all l) e) in
    (grind (arith, nat_tests, both.0), both.1)

-- a part that the turn has at one number alone has this number
pub part_number : (test : Part → Bool) (i : ℕ) (p : Place)
    → all_below (length TURN) (λ j. not (test (slice_index_or TURN j turn_begins)) || (j == i)) ≡ true
    → p.part < length TURN → test (part_of p) ≡ true → p.part ≡ i
part_number test i p alone within e =
    let same = implied _ _ (each_below (length TURN) p.part
    (λ j. not (test (slice_index_or TURN j turn_begins)) || (j == i)) alone within) e in
    grind (arith, nat_tests, same)

-- a place of the letters' part is that of some member
pub give_place : (n k : ℕ) (p : Place) → IsIn n k p → part_of p ≡ parts.Give → p ≡ give_to p.row
unfolding all_below
give_place n k p is at =
    let number : p.part ≡ 20 = part_number is_give 20 p refl is.part (ap is_give at) in
    let column : p.column ≡ 0 = omega (arith, is.column, ap (columns_in k) at) in
    λ z. record { part = number z; row = p.row; column = column z }

-- behind the place of an append is that where the log is published
pub append_next : (n k : ℕ) (p : Place) → IsIn n k p → part_of p ≡ parts.Append → after n k p ≡ begin 8
unfolding all_below
append_next n k p is at = ap (after n k) (only_place n k 7 p is (ap (rows_in n) at) (ap (columns_in k) at)
    (part_number is_append_part 7 p refl is.part (ap is_append_part at)))

-- a place of the vote's part is its first
pub vote_place : (n k : ℕ) (p : Place) → IsIn n k p → part_of p ≡ parts.Vote → p ≡ begin 11
unfolding all_below
vote_place n k p is at = only_place n k 11 p is (ap (rows_in n) at) (ap (columns_in k) at)
    (part_number is_vote 11 p refl is.part (ap is_vote at))

propose_number : (i : ℕ) → i < length TURN → is_propose (slice_index_or TURN i turn_begins) ≡ true
    → (i + 1 < length TURN) × (slice_index_or TURN (i + 1) turn_begins ≡ parts.Do acts.Accept)
unfolding all_below
propose_number i l e = let both = follows is_propose is_accept refl i l e in (both.0, accept_test _ both.1)

pub after_propose : (n k : ℕ) (p : Place) → IsIn n k p → part_of p ≡ parts.Do acts.Propose
    → part_of (after n k p) ≡ parts.Do acts.Accept
after_propose n k p is at =
    let number = propose_number p.part is.part (ap is_propose at) in
    next_part n k p (ap (rows_in n) at) (ap (columns_in k) at) number.0 ∙ number.1
