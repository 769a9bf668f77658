-- Where nobody is late, no letter is given or taken.
use Rattle.std.{specs.Prelude.Some, proofs.Common.{◌≡◌, refl, sym, ap, ◌∙◌, subst, ℕ, true, []}}
use Rattle.dr_history.specs.{Members.has, Soundness.IsNobodyLate}
use Rattle.dr_machine.{specs.{Acts.CanTake, Group.Group}, proofs.{Groups.nobody, Presence.late_in}}
use Rattle.dr_program.specs.{Presence.present_at, Program.{Program, comes_to, letter_for}}
use Rattle.dr_program.specs.{Reading.{step_by, step_due, world}, Replica.me, Running.{Running, next_deed, next_step}}
use Rattle.dr_program.{specs.declared.deed.Deed.Deed, proofs.{Deeds.due_allowed, Runs.joins_outside}}
use Rattle.dr_program.specs.declared.deed.Deed.TheVariants as deeds
use Rattle.dr_program.specs.declared.outcome.Outcome.TheVariants as outcomes
use Rattle.dr_refine.proofs.Deeds.{deed_is_step}
use Rattle.dr_program_laws.proofs.Letters.{letters_are}
use Rattle.dr_world_laws.proofs.Worlds.{known, newcomer_late}
use Rattle.dr_play.{specs.Sound.{IsOfNoLetter, IsSound}, proofs.Deeds.{deed_tells, IsTold}}

-- no letter is given
no_give : (g : Group) (p : Program) (m j : ℕ) (r : Running) → IsSound g p → IsNobodyLate g.opening
    → present_at p.members m ≡ Some r → next_deed r ≡ deeds.Give j → ⊥
no_give g p m j r is none there give = nobody g j none (newcomer_late g (world g p) m j is.group
    (known g (world g p) is.group is.reached) (subst (λ s. CanTake g (world g p) m s) tells.says can))
  where
    tells : IsTold [] r (deeds.Give j)
    tells = deed_tells [] r (deeds.Give j) give

    named : step_by (letter_for p m) r outcomes.Ok ≡ Some (next_step r)
    named = ap (λ o. comes_to (letter_for p m) (step_due r o) outcomes.Ok) tells.none
        ∙ ap (λ s. comes_to (letter_for p m) (Some s) outcomes.Ok) tells.says ∙ ap Some (sym tells.says)

    can : CanTake g (world g p) m (next_step r)
    can = (deed_is_step g p (record { member = m; outcome = outcomes.Ok }) r (next_step r) is.group is.form
        (letters_are g p is.group is.form is.reached) there named).0

-- nor taken
no_take : (g : Group) (p : Program) (m : ℕ) (r : Running) → IsSound g p → IsNobodyLate g.opening
    → present_at p.members m ≡ Some r → next_deed r ≡ deeds.Take → ⊥
no_take g p m r is none there take = nobody g m none (late_in g m is.group (subst (λ k. has k m ≡ true)
    (is.form.of m r there).late (subst (λ k. has r.replica.late k ≡ true) (is.form.of m r there).number late)))
  where
    tells : IsTold [] r deeds.Take
    tells = deed_tells [] r deeds.Take take

    late : has r.replica.late (me r.replica) ≡ true
    late = ((is.form.form m r there).replica.outside (joins_outside r.replica (next_step r) tells.says
        (due_allowed r ((is.form.form m r there).due tells.none)))).late

pub deals_with_none : (g : Group) (p : Program) (m : ℕ) (r : Running) → IsSound g p → IsNobodyLate g.opening
    → present_at p.members m ≡ Some r → IsOfNoLetter (next_deed r)
deals_with_none g p m r is none there = by (next_deed r) refl
  where
    by : (d : Deed) → next_deed r ≡ d → IsOfNoLetter d
    by (deeds.Give j) e = absurd (no_give g p m j r is none there e)
    by deeds.Take e = absurd (no_take g p m r is none there e)
    by d e = tt
