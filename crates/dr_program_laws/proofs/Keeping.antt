-- Moves keep a program of its group, in a world that is reached.
use Rattle.std.specs.Prelude.{Option, None, Some}
use Rattle.std.proofs.{Common.{◌≡◌, refl, sym, subst, ℕ, ◌≤◌, true, List, [], ◌∷◌}, lemmas.Option.same_Some}
use Rattle.dr_entry.specs.declared.{end.End.End, entry.Entry.Entry}
use Rattle.dr_words.specs.Form.{IsInForm}
use Rattle.dr_program.specs.declared.place.Part.TheVariants as parts
use Rattle.dr_machine.{specs.{Group.{Group, IsGroup}, Run.{ComesOfEvents, IsReached}}, proofs.Runs.events_reached}
use Rattle.dr_program.specs.{Form.{HasForm, IsRunningMember}, Reading.{step_due, step_of_member, world}}
use Rattle.dr_program.specs.{Presence.present_at, Sight.{IsSeenNext, MaySee}, declared.setup.Setup.Setup}
use Rattle.dr_program.specs.Program.{AreSetups, IsRanFrom, Move, Program, after_deed, begun_program, letter_for, next_sight, ran, step_of}
use Rattle.dr_program.specs.Running.{Running, after_step, next_step, step_at, took_letter, AsksForLetter}
use Rattle.dr_program.{specs.Steps.{allows, sight, stepped}, proofs.StepsAt.{failed_form, taking}}
use Rattle.dr_program.{specs.declared.outcome.Outcome.Outcome, proofs.Opening.{begins_at_the_opening, begun_reached}}
use Rattle.dr_program.proofs.{Deeds.due_allowed, Runs.after_either, Waiting.free_step}
use Rattle.dr_refine.{specs.Programs.IsProgram, proofs.Deeds.{step_events, step_reached}}
use Rattle.dr_refine.proofs.Steps.{begun_is_program, step_kept}
use Rattle.dr_form.proofs.{Finishing.joined_form, Steps.stepped_form}
use Rattle.dr_program_laws.proofs.{Letters.{letters_are, letters_have_room}, Sight.found_seen}
use Rattle.dr_turn.proofs.{Deeds.deeds_keep_form, Takes.takes_keep_form}

-- ---- one move

-- the replica of a member of a program in a reached world keeps its form over its next step
pub next_form : (g : Group) (p : Program) (m : ℕ) (r : Running) → IsGroup g → IsProgram g p
    → IsReached g (world g p) → present_at p.members m ≡ Some r → r.replica.end ≡ None
    → HasForm (stepped (next_sight p.table r) r.replica (next_step r))
next_form g p m r group is run there unended = stepped_form (next_sight p.table r) r.replica
    (next_step r) (is.form m r there).replica may (free_step r (is.form m r there).free)
    (λ i c at. subst (λ s. IsInForm r.replica.roster c (sight p.table r.replica s))
    (sym at) (found_seen g p m r i c group is run there (subst (λ s. allows r.replica s ≡ true) at may)).form)
  where
    may : allows r.replica (next_step r) ≡ true
    may = due_allowed r ((is.form m r there).due unended)

-- and so does the member
member_kept : (g : Group) (p : Program) (m : ℕ) (r : Running) → IsGroup g → IsProgram g p → IsReached g (world g p)
    → present_at p.members m ≡ Some r → r.replica.end ≡ None → IsRunningMember (after_step (next_sight p.table r) r)
member_kept g p m r group is run there unended = deeds_keep_form (next_sight p.table r) r (is.form m r there) unended
    (next_form g p m r group is run there unended)

-- a take keeps its form as well, whatever letter it finds
pub took_form : (g : Group) (p : Program) (m : ℕ) (r : Running) (letter : Option (List Entry)) → IsGroup g
    → IsProgram g p → IsReached g (world g p) → present_at p.members m ≡ Some r → AsksForLetter r
    → letter_for p m ≡ letter → HasForm (took_letter letter r).replica
took_form g p m r None group is run there asks found = (is.form m r there).replica
took_form g p m r (Some letter) group is run there asks found =
    let take = taking r (is.form m r there) asks in
    joined_form r.replica letter (is.form m r there).replica take.outside take.idle
    (letters_have_room g p m r letter group is run there take.outside found)

-- and over its next deed, however its append goes, and whatever letter it finds
deed_kept : (g : Group) (p : Program) (m : ℕ) (o : Outcome) (r : Running) → IsGroup g → IsProgram g p
    → IsReached g (world g p) → present_at p.members m ≡ Some r → r.replica.end ≡ None
    → IsRunningMember (after_deed (next_sight p.table r) (letter_for p m) o r (next_step r))
deed_kept g p m o r group is run there unended = after_either IsRunningMember p.table
    (letter_for p m) o r (next_step r) (member_kept g p m r group is run there unended) (λ why due. failed_form why r
    (is.form m r there) unended due) (λ due. let asks : AsksForLetter r = record { unended = unended; due = due } in
    takes_keep_form (letter_for p m) r (is.form m r there) asks
    (took_form g p m r (letter_for p m) group is run there asks refl))

-- a move keeps a program of its group, in a world that is reached
pub move_kept : (g : Group) (p : Program) (e : Move) → IsGroup g → IsProgram g p → IsReached g (world g p)
    → IsProgram g (step_of p e) × IsReached g (world g (step_of p e))
move_kept g p e group is run = (
  step_kept g p e is (λ r there unended. deed_kept g p e.member e.outcome r group is run there unended),
  step_reached g p e group is (letters_are g p group is run) run,
)

-- ---- every run

run_kept : (g : Group) (p : Program) (es : List Move) → IsGroup g → IsProgram g p → IsReached g (world g p)
    → IsProgram g (ran p es) × IsReached g (world g (ran p es))
unfolding ran
run_kept g p [] group is run = (is, run)
run_kept g p (e ∷ es) group is run = let kept = move_kept g p e group is run in
    run_kept g (step_of p e) es group kept.0 kept.1

-- a program that ran from its beginning is one of its group, in a world that is reached
pub deeds_kept : (g : Group) (turns : ℕ) (setups : List (Option Setup)) (p : Program) → IsGroup g → 1 ≤ turns
    → AreSetups g turns setups → IsRanFrom (begun_program g setups) p → IsProgram g p × IsReached g (world g p)
deeds_kept g turns setups p group some are (es, is) = subst (λ q. IsProgram g q × IsReached g (world g q)) (sym is)
    (run_kept g (begun_program g setups) es group (begun_is_program g turns setups group some are)
    (begun_reached g turns setups group are))

run_events : (g : Group) (p : Program) (es : List Move) → IsGroup g → IsProgram g p
    → ComesOfEvents g (world g p) → ComesOfEvents g (world g (ran p es))
unfolding ran
run_events g p [] group is come = come
run_events g p (e ∷ es) group is come =
    run_events g (step_of p e) es group (move_kept g p e group is (events_reached g (world g p) come)).0
    (step_events g p e group is (letters_are g p group is (events_reached g (world g p) come)) come)

-- and the world comes of events alone
pub deeds_events : (g : Group) (turns : ℕ) (setups : List (Option Setup)) (p : Program) → IsGroup g → 1 ≤ turns
    → AreSetups g turns setups → IsRanFrom (begun_program g setups) p → ComesOfEvents g (world g p)
deeds_events g turns setups p group some are (es, is) = subst (λ q. ComesOfEvents g (world g q)) (sym is)
    (run_events g (begun_program g setups) es group (begun_is_program g turns setups group some are)
    ([], begins_at_the_opening g turns setups group are))

-- ---- what members see

-- a look that is due finds a word that its member may see
pub sees : (g : Group) (p : Program) (m : ℕ) (r : Running) (i c : ℕ) → IsGroup g → IsProgram g p
    → IsReached g (world g p) → present_at p.members m ≡ Some r → step_of_member r ≡ Some (step_at r parts.Look i c)
    → MaySee r (step_of_member r) (next_sight p.table r)
sees g p m r i c group is run there due = by r.replica.end refl due
  where
    found_there : next_step r ≡ step_at r parts.Look i c → r.replica.end ≡ None
        → IsSeenNext r i c (next_sight p.table r)
    found_there at unended = subst (λ s. IsSeenNext r i c (sight p.table r.replica s)) (sym at)
        (found_seen g p m r i c group is run there
        (subst (λ s. allows r.replica s ≡ true) at (due_allowed r ((is.form m r there).due unended))))

    by : (o : Option End) → r.replica.end ≡ o → step_due r o ≡ Some (step_at r parts.Look i c)
        → MaySee r (step_of_member r) (next_sight p.table r)
    by None unended same = subst (λ s. MaySee r s (next_sight p.table r)) (sym due)
        (found_there (same_Some (next_step r) (step_at r parts.Look i c) same) unended)
    by (Some x) ended same = absurd (cc)
