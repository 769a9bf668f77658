-- The search along the order of a turn.
use Rattle.std.{specs.Prelude.{slice_index_or, is_some, Option, Some, None}, proofs.lemmas.Bool.Decides.nat_tests}
use Rattle.std.proofs.Common.{ℕ, ◌&&◌, Bool, ◌≡◌, refl, true, arith, ap, false, ◌+◌, ◌-◌, ◌<◌, ◌==◌, length, zero, suc, ◌||◌, if◌then◌else◌, List, ◌∙◌, sym}
use Rattle.dr_entry.{specs.declared.entry.Entry.Entry, proofs.{BoolFacts.{together, first_out}, ListFacts.both}}
use Rattle.dr_rows.specs.Words.{changed}
use Rattle.dr_program.specs.{Form.HasForm, Program.{after_deed, next_sight}, Replica.{is_inside, is_other}}
use Rattle.dr_program.specs.Running.{Running, asks, step_at, applies, members, columns, moved, settle, after_step, next_step, took, settled, took_letter, crashes_now, push_or_crash}
use Rattle.dr_program.specs.{Steps.{allows, has_cell}, Turn.{part_of, is_beat, turn_begins, IsIn, places_in}}
use Rattle.dr_program.specs.declared.{outcome.{LogWhy.LogWhy, Outcome.Outcome}, place.{Part.Part, Place.Place}}
use Rattle.dr_program.{specs.declared.place.TheConstants.TURN, proofs.{Parts.is_inner, Replicas.may_look}}
use Rattle.dr_program.proofs.{RunningPrograms.{judge_allowed, IsIdleFailed}, Runs.after_either}
use Rattle.dr_program.specs.declared.place.Part.TheVariants as parts

-- there is something to do of this part in this row and column
abbrev pub applies_at : Running → Part → ℕ → ℕ → Bool
applies_at r part i c = asks r part i c && allows r.replica (step_at r part i c)

-- it doesn't depend on where the member stands
same_at : (r : Running) (p : Place) (part : Part) (i c : ℕ)
    → applies_at (record r { place = p }) part i c ≡ applies_at r part i c
same_at r p parts.Look i c = refl
same_at r p part i c = refl

-- whether there is something to do at a place doesn't depend on where the member stands
pub applies_from : (r : Running) (p q : Place) → applies (record r { place = p }) q ≡ applies r q
applies_from r p q = same_at r p (part_of q) q.row q.column

-- a turn may begin at any time
pub beat_test : (part : Part) → is_beat part ≡ true → part ≡ turn_begins
beat_test part e = grind (arith, e)

-- a place with nothing to do is not a beat, which there always is to do
pub idle_part : (r : Running) (p : Place) → applies r p ≡ false → is_beat (part_of p) ≡ false
idle_part r p e = by (is_beat (part_of p)) refl
  where
    by : (b : Bool) → is_beat (part_of p) ≡ b → is_beat (part_of p) ≡ false
    by false h = h
    by true h = let there : applies r p ≡ true =
        ap (λ x. applies_at r x p.row p.column) (beat_test (part_of p) h) in absurd (cc)

-- a place that is no beat is not in the last part of the turn
pub part_before : (n k : ℕ) (p : Place) → IsIn n k p → is_beat (part_of p) ≡ false → p.part + 1 < length TURN
part_before n k p is other = by (p.part == length TURN - 1) refl
  where
    by : (b : Bool) → (p.part == length TURN - 1) ≡ b → p.part + 1 < length TURN
    by false e = grind (arith, nat_tests, e, is.part)
    by true e = let at : p.part ≡ length TURN - 1 = grind (arith, nat_tests, e) in
        absurd (cc (ap (λ i. is_beat (slice_index_or TURN i turn_begins)) at, other))

-- a member's roster has at least one member
pub some_member : (r : Running) → HasForm r.replica → 0 < members r
some_member r f = omega (arith, f.rows.present, f.members)

-- a row has at least one column
pub some_column : (r : Running) → 0 < columns r
some_column r = omega arith

-- the search changes nothing but the place
pub settle_only : (f : ℕ) (r : Running) → settle f r ≡ record r { place = (settle f r).place }
unfolding settle
settle_only zero r = refl
settle_only (suc f) r = by (is_some r.replica.end || applies r r.place) (settle_only f (moved r))
  where
    by : (x : Bool) → settle f (moved r) ≡ record (moved r) { place = (settle f (moved r)).place }
        → (if x then r else settle f (moved r)) ≡ record r { place = (if x then r else settle f (moved r)).place }
    by true e = refl
    by false e = e

-- the search changes nothing but the place
pub settled_same : (word : ℕ) (r : Running)
    → after_step word r ≡ record (took word r (next_step r)) { place = (after_step word r).place }
settled_same word r = settle_only (places_in (members r') (columns r') TURN) r'
  where
    r' : Running
    r' = took word r (next_step r)

pub settled_took : (letter : Option (List Entry)) (r : Running) → settled (took_letter letter r)
    ≡ record (took_letter letter r) { place = (settled (took_letter letter r)).place }
settled_took letter r = settle_only (places_in (members r') (columns r') TURN) r'
  where
    r' : Running
    r' = took_letter letter r

pub look_applies : (r : Running) (p : Place) → part_of p ≡ parts.Look → is_inside r.replica ≡ true
    → may_look r.replica p.row p.column ≡ true → applies r p ≡ true
look_applies r p at inside may = ap (λ x. applies_at r x p.row p.column) at
    ∙ together (is_inside r.replica) (may_look r.replica p.row p.column) inside may

pub push_applies : (r : Running) (p : Place) → part_of p ≡ parts.Push → is_other r.replica p.row ≡ true
    → (is_inside r.replica || crashes_now r) ≡ true → changed r.replica.rows p.row p.column ≡ true
    → has_cell r.replica p.row p.column ≡ true → applies r p ≡ true
push_applies r p at other may word cell = ap (λ x. applies_at r x p.row p.column) at
    ∙ both (is_other r.replica p.row) (changed r.replica.rows p.row p.column)
    (allows r.replica (step_at r parts.Push p.row p.column)) other word (by (crashes_now r) may)
  where
    either : (a : Bool) → (a || false) ≡ true → a ≡ true
    either true e = refl
    either false e = absurd (cc e)

    by : (b : Bool) → (is_inside r.replica || b) ≡ true → allows r.replica (push_or_crash b p.row p.column) ≡ true
    by true e = refl
    by false e = together (is_inside r.replica) (has_cell r.replica p.row p.column)
        (either (is_inside r.replica) e) cell

pub idle_outside : (r : Running) (part : Part) (i c : ℕ) → is_inside r.replica ≡ false → is_inner part ≡ true
    → false ≡ applies_at r part i c
idle_outside r parts.Look i c out e = first_out (is_inside r.replica) _ out
idle_outside r parts.Judge i c out e = first_out (is_inside r.replica) _ out ∙ sym (judge_allowed r)
idle_outside r parts.Receive i c out e = first_out (is_inside r.replica) _ out
idle_outside r parts.Excluded i c out e = first_out (is_inside r.replica) _ out
idle_outside r parts.Done i c out e = first_out (is_inside r.replica) _ out
idle_outside r parts.Give i c out e = first_out (is_inside r.replica) _ out
idle_outside r part i c out e = absurd (cc e)

-- a member whose append has failed stays one
pub still_failed : (table : List ℕ) (letter : Option (List Entry)) (o : Outcome) (r : Running) (why : LogWhy)
    → r.failed ≡ Some why
    → (next : LogWhy) × ((after_deed (next_sight table r) letter o r (next_step r)).failed ≡ Some next)
still_failed table letter o r why at = after_either (λ x. (next : LogWhy) × (x.failed ≡ Some next)) table letter o r
    (next_step r) (why, ap (λ (x : Running). x.failed) (settled_same (next_sight table r) r) ∙ at)
    (λ next due. (next, refl)) (λ due. (why, took_same letter ∙ at))
  where
    took_same : (l : Option (List Entry)) → (settled (took_letter l r)).failed ≡ r.failed
    took_same None = ap (λ (x : Running). x.failed) (settle_only (places_in (members r) (columns r) TURN) (took_letter None r))
    took_same (Some l) = ap (λ (x : Running). x.failed)
        (settle_only (places_in (members (took_letter (Some l) r)) (columns (took_letter (Some l) r)) TURN) (took_letter (Some l) r))

-- whether a take finds a letter or none, the member's end, what it has failed by and its votes that wait stay
pub take_leaves : (letter : Option (List Entry)) (r : Running)
    → ((settled (took_letter letter r)).replica.end ≡ r.replica.end)
    × ((settled (took_letter letter r)).failed ≡ r.failed)
    × ((settled (took_letter letter r)).replica.pending ≡ r.replica.pending)
take_leaves letter r = (
  ap (λ (x : Running). x.replica.end) only ∙ (same letter).0,
  ap (λ (x : Running). x.failed) only ∙ (same letter).1,
  ap (λ (x : Running). x.replica.pending) only ∙ (same letter).2,
)
  where
    only : settled (took_letter letter r) ≡ record (took_letter letter r) {
      place = (settled (took_letter letter r)).place;
    }
    only = settle_only _ (took_letter letter r)

    same : (letter : Option (List Entry)) → ((took_letter letter r).replica.end ≡ r.replica.end)
        × ((took_letter letter r).failed ≡ r.failed) × ((took_letter letter r).replica.pending ≡ r.replica.pending)
    same None = (refl, refl, refl)
    same (Some es) = (refl, refl, refl)

-- nor at a take, whether it finds a letter or none
pub letter_idle : (letter : Option (List Entry)) (r : Running) → IsIdleFailed r
    → IsIdleFailed (settled (took_letter letter r))
letter_idle letter r idle why failed =
    let leaves = take_leaves letter r in leaves.2 ∙ idle why (sym leaves.1 ∙ failed)
