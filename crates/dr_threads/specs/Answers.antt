-- What a run answers: a hand and logs, or the logs alone where memory was wanting.
use Rattle.std.specs.Prelude.{ℕ, List, Option, Result, Ok, Err, Vec, vec_capacity}
use Rattle.std.specs.declared.alloc.{AllocError.AllocError, Global.Global}
use Rattle.dr_disk.specs.Disk.{Told}
use Rattle.dr_log.specs.State.{LogState}
use Rattle.dr_program.specs.Running.{Running}
use Rattle.dr_table.specs.Cards.{Cards, DealtTable}
use Rattle.dr_threads.specs.{Course.HaveRun, Logs.AreLonger}

module _ {D : Type 0} where
  -- the logs, and how many there is room for
  abbrev pub logs_of : Result (Cards × Vec (Option (LogState D)) Global)
      (Vec (Option (LogState D)) Global × AllocError) → List (Option (LogState D))
  logs_of (Ok r) = r.1.items
  logs_of (Err r) = r.0.items

  abbrev pub room_of : Result (Cards × Vec (Option (LogState D)) Global)
      (Vec (Option (LogState D)) Global × AllocError) → ℕ
  room_of (Ok r) = vec_capacity r.1
  room_of (Err r) = vec_capacity r.0

  -- the members have run to their ends, and each log has served its member; or each log has what it had, and
  -- maybe more
  abbrev pub IsHandAnswer : (D → Option Told) → (D → ℕ) → DealtTable → List (Option Running)
      → List (Option (LogState D)) → Result (Cards × Vec (Option (LogState D)) Global)
      (Vec (Option (LogState D)) Global × AllocError) → Type 0
  IsHandAnswer told faults table before logs (Ok r) = HaveRun told faults table before logs r.0 r.1.items
  IsHandAnswer told faults table before logs (Err r) = AreLonger told faults logs r.0.items
