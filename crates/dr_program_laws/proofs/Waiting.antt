-- Where an append of a member has begun, or has failed, no vote of it waits to be acted on, also as it has ended
-- by that.
use Rattle.std.specs.Prelude.{None, Some, Option, is_some}
use Rattle.std.proofs.Common.{◌≡◌, sym, ap, ◌∙◌, inl, inr, ℕ, refl, subst, [], ◌≤◌, List}
use Rattle.dr_entry.specs.declared.end.End.{End}
use Rattle.dr_machine.specs.Group.{Group, IsGroup}
use Rattle.dr_program.{specs.{Presence.present_at, declared.setup.Setup.Setup}, proofs.Runs.after_either}
use Rattle.dr_program.specs.Program.{Move, Program, after_deed, letter_for, moved_by, next_sight, step_of, AreSetups, begun_program, ran, IsRanFrom}
use Rattle.dr_program.{specs.Running.{Running, after_step, next_step, took}, proofs.Search.{settle_only, letter_idle}}
use Rattle.dr_program.specs.Steps.{stepped}
use Rattle.dr_program.proofs.{Deeds.{rest_changes_nothing, step_is}, Present.{replaced_either, begun_idle}}
use Rattle.dr_program.proofs.{Opening.begun_reached, RunningPrograms.{IsIdleFailed, AreIdleFailed, breaks_idle}}
use Rattle.dr_refine.{specs.Programs.IsProgram, proofs.Steps.begun_is_program}
use Rattle.dr_program_laws.{specs.Failing.{EndsBy, IsFailing, AreFailing}, proofs.Failing.{all_fail, move_fails}}
use Rattle.dr_program_laws.proofs.Programs.{ran_keeps}

-- a member whose append has failed ends by it, and no vote comes to wait
takes_idle : (word : ℕ) (r : Running) → r.replica.end ≡ None → IsFailing r → IsIdleFailed r
    → IsIdleFailed (after_step word r)
takes_idle word r none is idle why failed = ap (λ (x : Running). x.replica.pending) only ∙ by (is.broken why was)
  where
    only : after_step word r ≡ record (took word r (next_step r)) { place = (after_step word r).place }
    only = settle_only _ (took word r (next_step r))

    was : r.failed ≡ Some why
    was = sym (ap (λ (x : Running). x.failed) only) ∙ failed

    by : EndsBy why r → (stepped word r.replica (next_step r)).pending ≡ None
    by (inl due) = ap (λ s. (stepped word r.replica s).pending) due.1 ∙ idle why was
    by (inr over) = absurd (cc (none, over))

move_idle : (p : Program) (e : Move) (g : Group) → IsProgram g p → AreFailing p → AreIdleFailed p
    → AreIdleFailed (step_of p e)
move_idle p e g is failing all = by (present_at p.members e.member) refl
  where
    at : (r : Running) → present_at p.members e.member ≡ Some r → (o : Option End) → r.replica.end ≡ o
        → AreIdleFailed (step_of p e)
    at r there (Some x) ended = subst AreIdleFailed (sym (rest_changes_nothing p e r there (ap is_some ended))) all
    at r there None unended = subst AreIdleFailed (sym (step_is p e r there unended)) (λ m y found.
        elim (replaced_either p.members e.member r
        (after_deed (next_sight p.table r) (letter_for p e.member) e.outcome r (next_step r)) there m y found) [
          | inl here ↦ subst IsIdleFailed here.1 (after_either IsIdleFailed p.table (letter_for p e.member) e.outcome
              r (next_step r)
              (takes_idle (next_sight p.table r) r unended (failing e.member r there) (all e.member r there))
              (λ why due. breaks_idle why r (is.form e.member r there) due)
              (λ due. letter_idle (letter_for p e.member) r (all e.member r there)))
          | inr other ↦ all m y other.1
        ])

    by : (o : Option Running) → present_at p.members e.member ≡ o → AreIdleFailed (step_of p e)
    by None none = subst AreIdleFailed (sym (ap (λ o. moved_by p o e) none)) all
    by (Some r) there = at r there r.replica.end refl

begun_failing : (g : Group) (turns : ℕ) (setups : List (Option Setup)) → IsGroup g → 1 ≤ turns
    → AreSetups g turns setups → AreFailing (begun_program g setups)
unfolding ran
begun_failing g turns setups group some are m r there =
    all_fail g turns setups (begun_program g setups) m r group some are ([], refl) there

pub all_idle : (g : Group) (turns : ℕ) (setups : List (Option Setup)) (p : Program) → IsGroup g → 1 ≤ turns
    → AreSetups g turns setups → IsRanFrom (begun_program g setups) p → AreFailing p × AreIdleFailed p
all_idle g turns setups p group some are (es, is) = subst (λ q. AreFailing q × AreIdleFailed q) (sym is)
    (ran_keeps g (λ q. AreFailing q × AreIdleFailed q) (begun_program g setups) es group
    (begun_is_program g turns setups group some are) (begun_reached g turns setups group are)
    (λ q e form both. (move_fails g q e form both.0, move_idle q e g form both.0 both.1))
    (begun_failing g turns setups group some are, begun_idle g setups))
