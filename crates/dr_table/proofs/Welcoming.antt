-- Who gives a letter: it is for a late member for which there is none yet, and nobody else is to give it.
use Rattle.std.{specs.Prelude.{None, Some}, proofs.Common.{◌≡◌, inl, inr, refl, ap, ◌∙◌, ℕ, ◌<◌, true, [], arith}}
use Rattle.std.proofs.lemmas.Bool.{cases_eq}
use Rattle.dr_play.{specs.Sound.IsSound, proofs.Deeds.{deed_tells, can_welcome, given_after}}
use Rattle.dr_history.specs.{History.up_to_view, Members.has}
use Rattle.dr_machine.specs.Group.{Group, late_members, roster}
use Rattle.dr_program.specs.{Presence.present_at, Program.{Program, after_deed, letter_for, next_sight, ok, step_of}}
use Rattle.dr_program.{specs.{Reading.world, Running.{Running, next_deed, next_step}}, proofs.Deeds.step_is}
use Rattle.dr_program.proofs.Present.{present_kept, MayGet}
use Rattle.dr_program.specs.declared.deed.Deed.TheVariants as deeds
use Rattle.dr_program.specs.declared.outcome.Outcome.TheVariants as outcomes
use Rattle.dr_program_laws.proofs.Letters.{may_get}
use Rattle.dr_world.proofs.Letters.{letter_late}

-- the letter is for a late member of the roster, for which there is none yet
pub record IsNewcomer (g : Group) (p : Program) (j : ℕ) : Type 0 where
  pub late : has (late_members g) j ≡ true
  pub within : j < roster g
  pub none : letter_for p j ≡ None

pub newcomer : (g : Group) (p : Program) (m j : ℕ) (r : Running) → IsSound g p → present_at p.members m ≡ Some r
    → next_deed r ≡ deeds.Give j → IsNewcomer g p j
newcomer g p m j r is there next = record {
  late = letter_late g (world g (step_of p (ok m))) j (up_to_view r.replica.history) is.group after.0.reached after.1;
  within = omega (arith, is.form.posts, may.within);
  none = may.none;
}
  where
    may : MayGet g p.letters j
    may = may_get g (world g p) p.letters m j is.group is.reached is.form.posts refl
        (can_welcome g p m j r is there next)

    after : IsSound g (step_of p (ok m)) × (letter_for (step_of p (ok m)) j ≡ Some (up_to_view r.replica.history))
    after = given_after g p m j r is there next may

-- behind a give of another member there is a letter, so nobody else is to give one
pub one_welcomer : (g : Group) (p : Program) (m n j : ℕ) (r q : Running) → IsSound g p
    → present_at p.members m ≡ Some r → present_at p.members n ≡ Some q
    → next_deed r ≡ deeds.Give j → next_deed q ≡ deeds.Give j → n ≡ m
one_welcomer g p m n j r q is there stands next due = elim (cases_eq n m) [
  | inl same ↦ same
  | inr apart ↦
      let t = deed_tells [] r (deeds.Give j) next in
      let new = newcomer g p m j r is there next in
      let after = given_after g p m j r is there next
      (record { none = new.none; within = omega (arith, is.form.posts, new.within) }) in
      let still : present_at (step_of p (ok m)).members n ≡ Some q = ap (λ (k : Program). present_at k.members n)
      (step_is p (ok m) r there t.none) ∙ present_kept p.members m n
      (after_deed (next_sight p.table r) (letter_for p m) outcomes.Ok r (next_step r)) apart ∙ stands in
      absurd (cc (after.1, (newcomer g (step_of p (ok m)) n j q after.0 still due).none))
]
