-- Members whose appends fail.
use Rattle.std.specs.Prelude.{◌≡◌, ◌⊎◌, ℕ, Bool, false, Option, None, Some}
use Rattle.dr_entry.specs.declared.end.End.{End}
use Rattle.dr_program.specs.{Presence.present_at, Program.Program}
use Rattle.dr_program.specs.{Running.{Running, append_or_end, end_by, next_step}, declared.outcome.LogWhy.LogWhy}
use Rattle.dr_program_laws.specs.Ended.{is_log_end}

-- a member has ended by its log
abbrev pub has_log_end : Option End → Bool
has_log_end None = false
has_log_end (Some end) = is_log_end end

-- its next act is the end for this reason, or it has ended so
abbrev pub EndsBy : LogWhy → Running → Type 0
EndsBy why r =
    ((r.replica.end ≡ None) × (next_step r ≡ append_or_end (Some why))) ⊎ (r.replica.end ≡ Some (end_by why))

-- an append that fails is what a member ends by, and no other member ends by its log
pub record IsFailing (r : Running) : Type 0 where
  pub well : r.failed ≡ None → has_log_end r.replica.end ≡ false
  pub broken : (why : LogWhy) → r.failed ≡ Some why → EndsBy why r

-- it is so with every member
abbrev pub AreFailing : Program → Type 0
AreFailing p = (m : ℕ) (r : Running) → present_at p.members m ≡ Some r → IsFailing r
