-- How a member stands in its turn: before its crash, and at its end as it should be.
use Rattle.std.specs.{List.list_any, Prelude.{⊤, All, Any, Option, None, Some, is_some}}
use Rattle.std.proofs.Common.{◌≡◌, refl, sym, ap, ◌∙◌, ℕ, zero, suc, ◌+◌, ◌≤◌, Bool, true, false, ◌&&◌, ◌||◌, if◌then◌else◌, List, min, arith, [], inl, inr}
use Rattle.std.proofs.lemmas.Bool.Decides.{nat_tests}
use Rattle.dr_entry.{specs.declared.end.End.End, proofs.{Ends.IsUprightOrSpent, ListPlaces.none_at}}
use Rattle.dr_entry.specs.declared.end.End.TheVariants as ends
use Rattle.dr_program.specs.Running.{Running, applies, columns, crashes_in_turn, is_in_turn, members, moved, settle, settled}
use Rattle.dr_program.{specs.{Turn.{after, part_of}, declared.setup.CrashPoint.CrashPoint}, proofs.Deeds.no_points}
use Rattle.dr_program.proofs.{Parts.{is_behind_crash, is_crash, behind_after, crash_test}, Search.applies_at}
use Rattle.dr_program.specs.declared.place.Part.TheVariants as parts
use Rattle.dr_program_laws.specs.{Ended.IsBeforeCrash, Failing.has_log_end, Trusting.has_been_left}

-- ---- before and after a crash

-- no crash point names an earlier turn than this one
abbrev pub IsNotPast : List CrashPoint → ℕ → Type 0
IsNotPast points turns = All (λ (c : CrashPoint). 1 ≤ c.turn → turns ≤ c.turn) points

-- a turn begins
pub next_turn : (points : List CrashPoint) (turns : ℕ) → IsBeforeCrash points turns
    → IsNotPast points (min (turns + 1) 4294967295)
next_turn points turns before = λ k d within some. omega (arith, before k d within some)

-- a member that doesn't crash in a turn is past it
pub no_crash : (points : List CrashPoint) (turns : ℕ) → IsNotPast points turns
    → list_any (is_in_turn turns) points ≡ false → IsBeforeCrash points turns
no_crash points turns later none = λ k d within some. grind (
  arith,
  nat_tests,
  none_at (is_in_turn turns) points k d none within,
  later k d within some,
)

-- ---- how it stands

-- an end is as it should be
abbrev pub IsProper : ℕ → List CrashPoint → ℕ → Option End → Type 0
IsProper limit points turns None = ⊤
IsProper limit points turns (Some ends.Done) = IsBeforeCrash points turns
IsProper limit points turns (Some ends.Crashed) = Any (λ (c : CrashPoint). c.turn ≡ turns) points
IsProper limit points turns (Some (ends.Spent n)) = (n ≡ limit) × (turns ≡ limit) × IsBeforeCrash points turns
IsProper limit points turns (Some ends.DiskFault) = ⊤
IsProper limit points turns (Some (ends.LogFull len)) = ⊤
IsProper limit points turns (Some (ends.Suspected by)) = ⊤
IsProper limit points turns (Some (ends.NoMajority mask)) = ⊤
IsProper limit points turns (Some (ends.Excluded view)) = ⊤
IsProper limit points turns (Some ends.Absent) = ⊥

-- a member with these crash points, which takes at most so many turns, stands so: it is not past a crash, is ahead
-- of it where its part is behind that of a crash in its turn, and is at an end that is as it should be
pub record Stands (limit : ℕ) (points : List CrashPoint) (r : Running) : Type 0 where
  pub limited : r.limit ≡ limit
  pub planned : r.crashes ≡ points
  pub later : IsNotPast points r.replica.turns
  pub ahead : is_behind_crash (part_of r.place) ≡ true → IsBeforeCrash points r.replica.turns
  pub proper : IsProper limit points r.replica.turns r.replica.end

-- ---- the search

-- the next place, where this one's part is not that end, or the turn has no crash
pub goes_on : (limit : ℕ) (points : List CrashPoint) (r : Running) → Stands limit points r
    → (is_crash (part_of r.place) ≡ true → IsBeforeCrash points r.replica.turns)
    → is_behind_crash (part_of (after (members r) (columns r) r.place)) ≡ true → IsBeforeCrash points r.replica.turns
goes_on limit points r v missed late =
    by (is_behind_crash (part_of r.place)) refl (behind_after (members r) (columns r) r.place late)
  where
    by : (x : Bool) → is_behind_crash (part_of r.place) ≡ x → (x || is_crash (part_of r.place)) ≡ true
        → IsBeforeCrash points r.replica.turns
    by true e h = v.ahead e
    by false e h = missed h

-- from a place with nothing to do the member goes on
searched : (limit : ℕ) (points : List CrashPoint) (r : Running) → Stands limit points r
    → applies r r.place ≡ false → Stands limit points (moved r)
searched limit points r v idle = record {
  limited = v.limited;
  planned = v.planned;
  later = v.later;
  ahead = goes_on limit points r v
      (λ here. no_crash points r.replica.turns v.later (missed (crash_test (part_of r.place) here)));
  proper = v.proper;
}
  where
    left_out : (b : Bool) → (b && true) ≡ false → b ≡ false
    left_out true e = absurd (cc)
    left_out false e = refl

    missed : part_of r.place ≡ parts.Crash → list_any (is_in_turn r.replica.turns) points ≡ false
    missed here = ap (list_any (is_in_turn r.replica.turns)) (sym v.planned) ∙ left_out (crashes_in_turn r)
        (sym (ap (λ x. applies_at r x r.place.row r.place.column) here) ∙ idle)

settle_stands : (limit : ℕ) (points : List CrashPoint) (f : ℕ) (r : Running) → Stands limit points r
    → Stands limit points (settle f r)
unfolding settle
settle_stands limit points zero r v = v
settle_stands limit points (suc f) r v =
    by (is_some r.replica.end || applies r r.place) refl (settle_stands limit points f (moved r))
  where
    idle : (a b : Bool) → (a || b) ≡ false → b ≡ false
    idle true b e = absurd (cc)
    idle false b e = e

    by : (x : Bool) → (is_some r.replica.end || applies r r.place) ≡ x
        → (Stands limit points (moved r) → Stands limit points (settle f (moved r)))
        → Stands limit points (if x then r else settle f (moved r))
    by true e s = v
    by false e s = s (searched limit points r v (idle _ _ e))

-- the search leaves a member standing as it should
pub settled_stands : (limit : ℕ) (points : List CrashPoint) (r : Running) → Stands limit points r
    → Stands limit points (settled r)
settled_stands limit points r v = settle_stands limit points _ r v

-- so it is where its end is proper, and is neither by its log nor by suspicion, and it has no crash points
pub proper_end : (limit turns : ℕ) (end : Option End) → IsProper limit [] turns end
    → has_log_end end ≡ false → has_been_left end ≡ false → IsUprightOrSpent limit turns end
proper_end limit turns None proper logs kept = inl (inl refl)
proper_end limit turns (Some ends.Done) proper logs kept = inl (inr refl)
proper_end limit turns (Some ends.Crashed) proper logs kept = absurd (no_points proper)
proper_end limit turns (Some (ends.Spent n)) proper logs kept = inr (proper.1, λ e. cc)
proper_end limit turns (Some ends.DiskFault) proper logs kept = absurd (cc)
proper_end limit turns (Some (ends.LogFull len)) proper logs kept = absurd (cc)
proper_end limit turns (Some (ends.Suspected by)) proper logs kept = absurd (cc)
proper_end limit turns (Some (ends.NoMajority mask)) proper logs kept = absurd (cc)
proper_end limit turns (Some (ends.Excluded view)) proper logs kept = absurd (cc)
proper_end limit turns (Some ends.Absent) proper logs kept = absurd proper
