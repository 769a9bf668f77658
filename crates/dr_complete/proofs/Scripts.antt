-- The members of a script that gives them time enough are complete.
use Rattle.std.specs.Prelude.{Option}
use Rattle.std.proofs.Common.{ap, sym, inl, inr, ◌≡◌, ◌⊎◌, ◌∙◌, subst, ℕ, ◌-◌, ◌/◌, ◌≤◌, [], List, length, map, arith}
use Rattle.dr_history.specs.{History.messages_of, Soundness.IsNobodyLate}
use Rattle.dr_machine.specs.Group.{AllPresent, IsGroup}
use Rattle.dr_program.specs.{Program.{AllOk, Move, Program, end_at}, Schedule.IsLockstep, declared.setup.Setup.Setup}
use Rattle.dr_program_laws.specs.Ended.{AreComplete}
use Rattle.dr_restart.specs.{Groups.group_of, Setups.{AreSetupsOf, IsBegun, crashes_of, suspicions_of}}
use Rattle.dr_restart.{specs.declared.start.Start.Start, proofs.Setups.are_setups}
use Rattle.dr_script.specs.{Ranges.HasRanges, declared.script.Script.Script}
use Rattle.dr_complete.{specs.Time.{AllLenient, HasTime}, proofs.Completeness.completes}
use Rattle.dr_entry.proofs.Bits.{few_at}

-- its setups suspect nobody, and have its patience
lenient_setups : (script : Script) (start : Start) (nth : ℕ) (setups : List (Option Setup)) → HasRanges script
    → HasTime script → AreSetupsOf script start nth setups → AllLenient setups
lenient_setups script start nth setups ranges time are m t there =
    let s = are.each m t there in record {
      patience = subst (λ n. (n ≡ 0) ⊎ (3 ≤ n)) (sym s.patience) (long ranges.patience);
      unscripted = s.suspicions ∙ ap (λ faults. suspicions_of faults nth m) time.faultless;
    }
  where
    long : (script.patience ≡ 0) ⊎ ((3 ≤ script.patience) × (script.patience ≤ 1000000))
        → (script.patience ≡ 0) ⊎ (3 ≤ script.patience)
    long (inl none) = inl none
    long (inr some) = inr some.0

pub completes_by_script : (script : Script) (start : Start) (nth : ℕ) (begun p : Program)
    (es : List Move) → IsGroup (group_of script start) → AllPresent (group_of script start)
    → IsNobodyLate (group_of script start).opening → HasRanges script → HasTime script
    → IsBegun script start nth begun → AllOk es → IsLockstep begun es p
    → AreComplete (group_of script start).opening (map end_at p.members)
completes_by_script script start nth begun p es is whole nobody ranges time
    (setups, are, same) well run = completes (group_of script start) script.turns most setups es p is whole nobody
    (are_setups script start nth setups ranges.group.lists are)
    (λ m s there. (are.each m s there).crashes ∙ ap (λ faults. crashes_of faults nth m) time.faultless)
    (lenient_setups script start nth setups ranges time are) (λ s. omega (arith, few s))
    (omega (arith, some)) (omega (arith, ranges.most_turns)) well (subst (λ b. IsLockstep b es p) same run)
  where
    most : ℕ
    most = (script.turns - 8) / 4

    some : 8 ≤ script.turns
    some = omega (arith, time.turns 0 [] (omega (arith, ranges.group.lists, ranges.group.some_member)))

    few : (s : ℕ) → length (messages_of (group_of script start).opening s) ≤ (script.turns - 8) / 4
    few s = few_at script.messages s ((script.turns - 8) / 4) (λ k d l. omega (arith, time.turns k d l))
