-- What a yard is to those that run ages over its disks.
use Rattle.std.specs.Prelude.{◌≡◌, ◌<◌, ℕ, [], Option, Some, IsTrue, IsSomeAnd, is_some}
use Rattle.dr_disk.specs.{Calls.at_rest, Disk.{Told, Now, content_of}}

-- what is told of the disk of each member, and how many calls for it have failed
pub record YardState : Type 0 where
  pub told : ℕ → Option Told
  pub faults : ℕ → ℕ

-- the state of a yard, by what it tells
abbrev pub state_by : {Y : Type 0} → (Y → ℕ → Option Told) → (Y → ℕ → ℕ) → Y → YardState
state_by told faults yard = record { told = told yard; faults = faults yard }

-- empty disks that have counted no fault
abbrev pub empty_yard : YardState
empty_yard = record { told = λ m. Some (Now (at_rest [])); faults = λ m. 0 }

-- the disks of the first n members tell
abbrev pub AllTell : ℕ → YardState → Type 0
AllTell n yard = (m : ℕ) → m < n → IsTrue (is_some (yard.told m))

-- the disks of the first n members tell that they are empty
abbrev pub AreEmpty : ℕ → YardState → Type 0
AreEmpty n yard = (m : ℕ) → m < n → IsSomeAnd (yard.told m) (λ t. content_of t ≡ [])
