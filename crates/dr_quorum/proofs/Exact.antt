-- Logs that make a start are refused for nothing else than want of memory, and those that are refused for a
-- reason are told it.
use Rattle.std.specs.Prelude.{IfErr, IfOk, MatchResult}
use Rattle.std.proofs.Common.{◌≡◌, refl, ap, ◌⊎◌, inl, inr, Result, Ok, Err, Some}
use Rattle.dr_history.specs.declared.opening.Opening.{Opening}
use Rattle.dr_restart.specs.{Choosing.{Handed, IsChosenStart}, Refusing.{IsRefusedFor, Refusal}}
use Rattle.dr_restart.specs.{Refusing.Refusal.{AgesUsedUp, Disagree, Foreign, NoQuorum}, declared.start.Start.Start}
use Rattle.dr_restart.proofs.Refusals.{no-refusal, one-refusal}
use Rattle.dr_quorum.specs.{Telling.{IsRightlyTold, reason_of}, declared.faults.ChooseFault.ChooseFault}
use Rattle.dr_quorum.specs.declared.faults.ChooseFault.TheVariants as faults

pub only_memory : (o : Opening) (h : Handed) (r : Result Start ChooseFault) → IfErr r (IsRightlyTold o h)
    → (start : Start) → IsChosenStart o h start → IfErr r (λ why. why ≡ faults.OutOfMemory)
only_memory o h (Ok s) told start chosen = tt
only_memory o h (Err faults.OutOfMemory) told start chosen = refl
only_memory o h (Err (faults.Foreign m p)) told start chosen = absurd (no-refusal o h start (Foreign m p) chosen told)
only_memory o h (Err (faults.NoQuorum v a b)) told start chosen =
    absurd (no-refusal o h start (NoQuorum v a b) chosen told)
only_memory o h (Err (faults.Disagree a b p)) told start chosen =
    absurd (no-refusal o h start (Disagree a b p) chosen told)
only_memory o h (Err faults.AgesUsedUp) told start chosen = absurd (no-refusal o h start AgesUsedUp chosen told)

pub only_reason : (o : Opening) (h : Handed) (r : Result Start ChooseFault) → IfOk r (IsChosenStart o h)
    → IfErr r (IsRightlyTold o h) → (why : Refusal) → IsRefusedFor o h why
    → MatchResult r (λ start. ⊥) (λ fault. (fault ≡ faults.OutOfMemory) ⊎ (reason_of fault ≡ Some why))
only_reason o h (Ok s) chosen told why refused = no-refusal o h s why chosen refused
only_reason o h (Err faults.OutOfMemory) chosen told why refused = inl refl
only_reason o h (Err (faults.Foreign m p)) chosen told why refused =
    inr (ap Some (one-refusal o h (Foreign m p) why told refused))
only_reason o h (Err (faults.NoQuorum v a b)) chosen told why refused =
    inr (ap Some (one-refusal o h (NoQuorum v a b) why told refused))
only_reason o h (Err (faults.Disagree a b p)) chosen told why refused =
    inr (ap Some (one-refusal o h (Disagree a b p) why told refused))
only_reason o h (Err faults.AgesUsedUp) chosen told why refused =
    inr (ap Some (one-refusal o h AgesUsedUp why told refused))
