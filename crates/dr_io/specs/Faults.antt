-- What a call of an outside object says of its faults.
use Rattle.std.specs.Prelude.{◌≡◌, ℕ, ◌+◌, ◌-◌, ◌^◌, ◌≤◌, min, Result, OnOk, OnErr}

-- the count after one more, which stays at its last value
abbrev pub count_after : ℕ → ℕ
count_after before = min (before + 1) (2 ^ 64 - 1)

-- a count rose, or stands at its last value
abbrev pub Rose : ℕ → ℕ → Type 0
Rose before now = count_after before ≤ now

-- the count of faults never falls; it stays where the call succeeds, and rises where it fails
pub record HasCause {T E : Type 0} (before now : ℕ) (result : Result T E) : Type 0 where
  pub later : before ≤ now
  pub calm : OnOk result (now ≡ before)
  pub failed : OnErr result (Rose before now)
