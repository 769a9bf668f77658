-- What becomes of the place of a log as room is made on it.
use Rattle.std.specs.Prelude.{◌≡◌, ℕ, Option, Some, is_some}
use Rattle.dr_play.specs.Logged.{IsAsBefore}
use Rattle.dr_disk.specs.Disk.{Told}
use Rattle.dr_log.specs.State.{LogState}
use Rattle.dr_served.specs.Served.{IsRoomy}
use Rattle.dr_program.specs.Running.{Running}

-- it has a log still where it had one, with what was on it; its disk tells the same, and has counted no fault
pub record StaysAt {D : Type 0} (told : D → Option Told) (count : D → ℕ) (old new : Option (LogState D))
    : Type 0 where
  pub place : is_some new ≡ is_some old
  pub kept : (x y : LogState D) → old ≡ Some x → new ≡ Some y → IsAsBefore x y
  pub calm : (x y : LogState D) → old ≡ Some x → new ≡ Some y
      → (told y.disk ≡ told x.disk) × (count y.disk ≡ count x.disk)

-- where a member stands at the place, its log got room for all that it may still append
abbrev pub GotRoomAt : {D : Type 0} → (D → Option Told) → (D → ℕ) → Option Running → Option (LogState D)
    → Option (LogState D) → Type 0
GotRoomAt {D} told count member old new = (r : Running) (x y : LogState D) → member ≡ Some r → old ≡ Some x
    → new ≡ Some y → IsRoomy told count r x y
