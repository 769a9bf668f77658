-- What an adapter over a reader or a writer of std is to its callers.
use Rattle.std.specs.Prelude.{ℕ, Result, Ok, Err}
use Rattle.dr_io.specs.Faults.{count_after}

-- the reader or writer, and how many calls failed
pub record Adapter (R : Type 0) : Type 0 where
  pub inner : R
  pub faults : ℕ

-- the count of faults after a call with this answer: one more where it failed, and else as before
abbrev pub faults_after : {T E : Type 0} → Result T E → ℕ → ℕ
faults_after (Ok _) faults = faults
faults_after (Err _) faults = count_after faults
