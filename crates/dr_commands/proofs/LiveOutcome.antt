-- What comes of a script that is run live, and of its last line.
use Rattle.std.proofs.Common.{◌≡◌, refl, sym, ap, ◌∙◌, subst, inl, inr, ℕ, zero, suc, arith, List, [], ◌∷◌, Contains, Option, None, Some, IfSome}
use Rattle.dr_entry.proofs.ListParts.{contains_more}
use Rattle.dr_intake.specs.Status.{status_of}
use Rattle.dr_outcome.{specs.Last.last_of, proofs.Due.{EndsIn, same_tells, script_ends, live_lasts}}
use Rattle.dr_outcome.specs.{Outcome.{HasDone, SaysOnly, by_run, unrun, unrun_ends}, declared.outcome.Outcome.Outcome}
use Rattle.dr_script.specs.{Reading.reading_of, declared.script.Script.Script}
use Rattle.dr_text.specs.declared.last.Last.{Last}
use Rattle.dr_yard.specs.Yards.{YardState}
use Rattle.dr_commands.specs.Live.{HasRunLive, OfPlan, RunsLive, live_ends, refused_plan}

refused_ends : (yard : YardState) (o : Outcome) → SaysOnly (Some refused_plan) yard yard o → EndsIn live_ends o
refused_ends yard o says = (
  unrun says.none says.unstopped
      (subst (λ l. IfSome l (λ line. Contains unrun_ends (status_of line))) (sym says.line) (2, omega arith, refl)),
  subst (λ l. IfSome l (λ line. Contains live_ends (status_of line))) (sym says.line) (0, omega arith, refl),
)

run_ends : (rounds : ℕ) (script : Script) (yard : YardState) (o : Outcome)
    → HasRunLive rounds script yard yard o → EndsIn live_ends o
run_ends rounds script yard o has = (
  by_run (has.line ∙ ap (last_of o.ages) (sym has.unstopped)),
  by_last o.last (sym has.line),
)
  where
    by_last : (last : Option Last) → last_of o.ages None ≡ last
        → IfSome last (λ line. Contains live_ends (status_of line))
    by_last None is = tt
    by_last (Some line) is = contains_more 3 (0 ∷ 8 ∷ []) (status_of line)
        (live_lasts o.ages line has.lived.stored has.lived.trusting is)

plan_ends : (rounds : ℕ) (script : Script) (yard : YardState) (o : Outcome)
    → OfPlan rounds script yard yard o → EndsIn live_ends o
plan_ends rounds script yard o (inl ran) = run_ends rounds script yard o ran.1
plan_ends rounds script yard o (inr refused) = refused_ends yard o refused.1

-- a script and a plan are refused with one status
once : (status : ℕ) → Contains (3 ∷ live_ends) status → Contains live_ends status
once status (zero, below, is) = (0, omega arith, is)
once status (suc i, below, is) = (i, omega (arith, below), is)

once_told : (last : Option Last) → IfSome last (λ line. Contains (3 ∷ live_ends) (status_of line))
    → IfSome last (λ line. Contains live_ends (status_of line))
once_told None is = tt
once_told (Some line) is = once (status_of line) is

pub live_done : (rounds : ℕ) (bytes : List ℕ) (yard : YardState) (o : Outcome)
    → RunsLive rounds bytes yard yard o → HasDone (RunsLive rounds bytes) live_ends yard yard o
live_done rounds bytes yard o comes =
    let has = script_ends (λ script result. OfPlan rounds script yard yard result) live_ends yard yard o
    (λ script is. plan_ends rounds script yard o is) (reading_of bytes) comes in
    record { does = comes; due = has.0; known = once_told o.last has.1; told = same_tells yard yard o.last refl }
