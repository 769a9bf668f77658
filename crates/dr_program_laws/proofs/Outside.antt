-- Members that are none of their view: no append of one has failed, and it ends by a fault alone.
use Rattle.std.specs.Prelude.{Option, None, Some, is_some}
use Rattle.std.proofs.Common.{◌≡◌, refl, sym, ap, subst, inl, inr, ℕ, ◌≤◌, List}
use Rattle.dr_entry.specs.declared.end.End.{End}
use Rattle.dr_machine.specs.{Group.{Group, IsGroup}, Run.IsReached, declared.step.Step.{Step, TheVariants.Do}}
use Rattle.dr_program.{specs.Acts.may, proofs.Outside.{IsApart, AreApart, takes, breaks, takes_letter, begun_apart}}
use Rattle.dr_program.specs.{Form.{HasForm, IsRunningMember}, Presence.present_at, Running.{Running, next_step}}
use Rattle.dr_program.specs.{Net.{IsRanOverNet, took_nothing}, declared.{outcome.LogWhy.LogWhy, setup.Setup.Setup}}
use Rattle.dr_program.specs.Program.{AreSetups, IsRanFrom, Move, Program, after_deed, begun_program, letter_for, moved_by, next_sight, step_of}
use Rattle.dr_program.specs.Reading.{world}
use Rattle.dr_program.proofs.{Deeds.{rest_changes_nothing, step_is}, Present.{present_map, replaced_either}}
use Rattle.dr_program.proofs.{Fixed.{Told, step_told}, Opening.begun_reached, Runs.after_either}
use Rattle.dr_refine.{specs.Programs.IsProgram, proofs.{Deeds.step_reached, Programs.missed_apart}}
use Rattle.dr_refine.proofs.Steps.{begun_is_program}
use Rattle.dr_program_laws.proofs.{Keeping.next_form, Letters.letters_are, Nets.net_keeps, Programs.ran_keeps}

-- ---- a move

move_apart : (g : Group) (p : Program) (e : Move) → IsGroup g → IsProgram g p → IsReached g (world g p)
    → AreApart p → AreApart (step_of p e)
move_apart g p e group is run all = by (present_at p.members e.member) refl
  where
    at : (r : Running) → present_at p.members e.member ≡ Some r → (o : Option End) → r.replica.end ≡ o
        → AreApart (step_of p e)
    at r there (Some x) ended = subst AreApart (sym (rest_changes_nothing p e r there (ap is_some ended))) all
    at r there None unended = subst AreApart (sym (step_is p e r there unended)) (λ m y found.
        elim (replaced_either p.members e.member r
        (after_deed (next_sight p.table r) (letter_for p e.member) e.outcome r (next_step r)) there m y found) [
          | inl here ↦ subst IsApart here.1 (after_either IsApart p.table (letter_for p e.member) e.outcome r
              (next_step r) (takes (next_sight p.table r) r (is.form e.member r there) unended
              (next_form g p e.member r group is run there unended) (all e.member r there))
              (λ why due. breaks why r (is.form e.member r there) unended due)
              (λ due. takes_letter (letter_for p e.member) r (is.form e.member r there)
              (record { unended = unended; due = due }) (all e.member r there)))
          | inr other ↦ all m y other.1
        ])

    by : (o : Option Running) → present_at p.members e.member ≡ o → AreApart (step_of p e)
    by None none = subst AreApart (sym (ap (λ o. moved_by p o e) none)) all
    by (Some r) there = at r there r.replica.end refl

-- ---- every run

pub ran_apart : (g : Group) (turns : ℕ) (setups : List (Option Setup)) (p : Program) → IsGroup g → 1 ≤ turns
    → AreSetups g turns setups → IsRanFrom (begun_program g setups) p → AreApart p
ran_apart g turns setups p group some are (es, same) = subst AreApart (sym same)
    (ran_keeps g (λ q. IsReached g (world g q) × AreApart q) (begun_program g setups) es group
    (begun_is_program g turns setups group some are) (begun_reached g turns setups group are) (λ q e is so. (
      step_reached g q e group is (letters_are g q group is so.0) so.0,
      move_apart g q e group is so.0 so.1,
    )) (begun_reached g turns setups group are, begun_apart g setups)).1

-- and over a net
pub net_apart : (g : Group) (turns : ℕ) (setups : List (Option Setup)) (p : Program) → IsGroup g → 1 ≤ turns
    → AreSetups g turns setups → IsRanOverNet g (begun_program g setups) p → AreApart p
net_apart g turns setups p group some are (before, way) = net_keeps g turns setups AreApart group some are
    (λ q e form run all. move_apart g q e group form run all) (λ q table letters all. all)
    (λ q m r form all there asks. missed_apart g q m r form all there asks) (begun_apart g setups) before p way
