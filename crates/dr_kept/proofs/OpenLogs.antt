-- The logs of all members as an age opens, one at a time.
use Rattle.std.specs.Prelude.{Option, None, Some}
use Rattle.std.proofs.Common.{◌≡◌, refl, subst, ℕ, List, length}
use Rattle.dr_log.specs.State.{LogState}
use Rattle.dr_opening.specs.{Lists.log_of, Logs.{ComeBelow, Together}}
use Rattle.dr_program.proofs.Present.{present_within}

-- what two logs of one place have come to, by its number
pub in_come : {D : Type 0} (P : LogState D → LogState D → Type 0) (olds news : List (Option (LogState D)))
    (m : ℕ) (old new : LogState D) → ComeBelow P olds news (length olds) → log_of olds m ≡ Some old
    → log_of news m ≡ Some new → P old new
in_come {D} P olds news m old new come there here = subst (λ (o : Option (LogState D)). Together P (Some old) o) here
    (subst (λ (o : Option (LogState D)). Together P o (log_of news m)) there
    (come.below m (present_within olds m old there)))

-- the log that is there between
pub come_mid : {D : Type 0} (P : LogState D → LogState D → Type 0) (olds mids : List (Option (LogState D)))
    (m : ℕ) (old : LogState D) → ComeBelow P olds mids (length olds) → log_of olds m ≡ Some old
    → (mid : LogState D) × (log_of mids m ≡ Some mid)
come_mid {D} P olds mids m old come there = by (log_of mids m) refl
    (subst (λ (o : Option (LogState D)). Together P o (log_of mids m)) there
    (come.below m (present_within olds m old there)))
  where
    by : (o : Option (LogState D)) → log_of mids m ≡ o → Together P (Some old) (log_of mids m)
        → (mid : LogState D) × (log_of mids m ≡ Some mid)
    by None at come = absurd (subst (Together P (Some old)) at come)
    by (Some mid) at come = (mid, at)
