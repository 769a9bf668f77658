-- The logs of two members as their first age opens.
use Rattle.std.proofs.Common.{◌≡◌, refl, sym, ap, ◌∙◌, subst, true, ℕ, zero, suc, ◌-◌, ◌^◌, ◌<◌, arith, List, [], ◌∷◌, ◌++◌, length, Option, None, Some}
use Rattle.std.proofs.lemmas.Option.{same_Some}
use Rattle.dr_play.specs.Logged.{AreOpened, IsOpened}
use Rattle.dr_entry.specs.declared.entry.Entry.TheVariants.{View}
use Rattle.dr_fresh.specs.Fresh.{IsFresh}
use Rattle.dr_history.specs.Members.{has}
use Rattle.dr_log.specs.State.{LogState}
use Rattle.dr_machine.specs.Group.{IsPresent, roster}
use Rattle.dr_program.specs.Presence.{present_at}
use Rattle.dr_restart.specs.{Groups.{first_start_of, group_of}, declared.start.Start.Start}
use Rattle.dr_script.specs.{Ranges.HasRanges, declared.script.Script.Script}

-- two fresh logs are those of a group of two in its first age
pub two_opened : {D : Type 0} (script : Script) (start : Start) (one other : ℕ) (a b : LogState D)
    → HasRanges script → script.members ≡ 2 → start ≡ first_start_of script → IsFresh start one a
    → IsFresh start other b → AreOpened (group_of script start) (Some a ∷ Some b ∷ [])
two_opened {D} script start one other a b ranges two first is_a is_b = record {
  all = sym (ranges.group.lists ∙ two);
  each = each;
  there = there;
}
  where
    here : start.present ≡ 3
    here = ap (λ (s : Start). s.present) first ∙ ap (λ n. 2 ^ n - 1) two

    opened : (most : ℕ) (log : LogState D) → IsFresh start most log → IsOpened (group_of script start) log
    opened most log is = record {
      entries = is.entries ∙ ap (λ es. es ++ View start.age 0 start.members ∷ [])
          (sym (ap (λ (s : Start). s.entries) first));
      whole = is.whole;
    }

    each : (m : ℕ) (log : LogState D) → present_at (Some a ∷ Some b ∷ []) m ≡ Some log
        → IsPresent (group_of script start) m × IsOpened (group_of script start) log
    each zero log at = (
      ap (λ mask. has mask 0) here,
      subst (IsOpened (group_of script start)) (same_Some a log at) (opened one a is_a),
    )
    each (suc zero) log at = (
      ap (λ mask. has mask 1) here,
      subst (IsOpened (group_of script start)) (same_Some b log at) (opened other b is_b),
    )
    each (suc (suc m)) log at = absurd (cc at)

    there : (m : ℕ) → m < roster (group_of script start) → IsPresent (group_of script start) m
        → (log : LogState D) × (present_at (Some a ∷ Some b ∷ []) m ≡ Some log)
    there zero below is = (a, refl)
    there (suc zero) below is = (b, refl)
    there (suc (suc m)) below is = absurd (omega (arith, below, ranges.group.lists, two))
