-- What is counted of a run has a number for each turn.
use Rattle.std.proofs.Common.{◌≡◌, ◌∙◌, refl, sym, ap, ℕ, ◌+◌, ◌*◌, ◌==◌, nat_lt, inl, inr, List, [], ◌∷◌, length, Option}
use Rattle.std.proofs.lemmas.{Bool.cases_Bool, List.{length-replicate, length-set}}
use Rattle.dr_ages.specs.{Ages.start_of, Watched.AreWatched, declared.{mode.Mode.TheVariants.Sim, part.Part.Part}}
use Rattle.dr_entry.specs.declared.end.AgeEnd.{AgeEnd}
use Rattle.dr_member.specs.Deeds.{is_before_turn}
use Rattle.dr_program.specs.{Program.{Move, Program, step_of}, Replica.me, Running.{Running, next_deed}}
use Rattle.dr_restart.specs.declared.start.Start.{Start}
use Rattle.dr_script.specs.declared.script.Script.{Script}
use Rattle.dr_sim.specs.Watched.{IsWatched, WasTold}
use Rattle.dr_tools.specs.Crashes.{Counted, counted, is_push, uncounted, with_points}

abbrev pub Opens : Counted → Start → Counted → Type 0
Opens old start new = new ≡ record old { age = start.age }

abbrev pub Sees : Counted → Running → List ℕ → Counted → Type 0
Sees old r table new = new ≡ counted old r

abbrev pub Closes : Counted → List (Option Running) → List ℕ → Counted → Type 0
Closes old members table new = new ≡ old

points_set : (at points : ℕ) (c : Counted) → length (with_points at points c).points ≡ length c.points
points_set at points c = elim (cases_Bool (nat_lt at (length c.points))) [
  | inl inside ↦ rw inside (length-set c.points at points)
  | inr outside ↦ rw outside refl
]

points_counted : (c : Counted) (r : Running) → length (counted c r).points ≡ length c.points
points_counted c r = elim (cases_Bool (me r.replica == c.member)) [
  | inl own ↦ elim (cases_Bool (is_before_turn r)) [
    | inl begins ↦ rw (own, begins) (points_set _ _ c)
    | inr on ↦ elim (cases_Bool (is_push (next_deed r))) [
      | inl pushes ↦ rw (own, on, pushes) (points_set _ _ c)
      | inr other ↦ rw (own, on, other) refl
    ]
  ]
  | inr others ↦ rw others refl
]

points_told : (p : Program) (es : List Move) (old new : Counted) → WasTold Sees p es old new
    → length new.points ≡ length old.points
points_told p [] old new is = ap (λ (c : Counted). length c.points) (sym is)
points_told p (e ∷ es) old new (r, next, at, sees, rest) =
    points_told (step_of p e) es next new rest ∙ ap (λ (c : Counted). length c.points) sees ∙ points_counted old r

points_seen : (script : Script) (start : Start) (nth : ℕ) (old new : Counted) (age : AgeEnd)
    → IsWatched Opens Sees Closes script start nth old new age → length new.points ≡ length old.points
points_seen script start nth old new age seen = ap (λ (c : Counted). length c.points) seen.closing
    ∙ points_told seen.is.begun seen.is.run.moves seen.opened seen.ended seen.moves
    ∙ ap (λ (c : Counted). length c.points) seen.opening

pub points_watched : (script : Script) (part : Part) (nth : ℕ) (ages : List AgeEnd) (old new : Counted)
    → AreWatched Opens Sees Closes Sim script part nth ages old new → length new.points ≡ length old.points
points_watched script part nth [] old new is = ap (λ (c : Counted). length c.points) is
points_watched script part nth (age ∷ ages) old new (next, seen, rest) = points_watched script part
    (nth + 1) ages next new rest ∙ points_seen script (start_of script part age) nth old next age seen

pub points_uncounted : (script : Script) (member : ℕ)
    → length (uncounted script member).points ≡ script.ages * script.turns
points_uncounted script member = length-replicate (script.ages * script.turns) 0
