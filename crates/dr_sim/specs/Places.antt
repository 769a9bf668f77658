-- The place of a member's log, as its deeds find it.
use Rattle.std.specs.Prelude.{◌≡◌, ℕ, Option, Some}
use Rattle.dr_disk.specs.Disk.{Told}
use Rattle.dr_log.specs.State.{LogState}
use Rattle.dr_served.specs.Served.{HasServed, IsReady}
use Rattle.dr_program.specs.Running.{Running}

-- a log stands there, and is ready for the member
abbrev pub IsReadyAt : {D : Type 0} → Option (LogState D) → Running → Type 0
IsReadyAt {D} place r = (log : LogState D) × (place ≡ Some log) × IsReady log r

-- a log that stands there has served the member
abbrev pub HasServedAt : {D : Type 0} → (D → Option Told) → (D → ℕ) → LogState D → Option (LogState D) → Running
    → Type 0
HasServedAt {D} told faults base place r = (log : LogState D) → place ≡ Some log
    → HasServed told faults base log r
