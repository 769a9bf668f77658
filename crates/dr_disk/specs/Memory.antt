-- What a disk in memory is to its callers.
use Rattle.std.specs.Prelude.{ℕ, ◌≤◌, List, Option, IsSomeAnd, ◌⊎◌}
use Rattle.dr_disk.specs.Calls.{Call, State}
use Rattle.dr_io.specs.{Faults.count_after, Plan.{CallPlan, IsPlanned}}

-- what has become of it, and for how many more bytes there is room
pub record CalmState : Type 0 where
  pub state : State
  pub room_bytes : ℕ

-- its calls, and for how many more of them, and how many bytes, there is room
pub record KeptState : Type 0 where
  pub calls : List Call
  pub room_calls : ℕ
  pub room_bytes : ℕ

-- the same, which calls fail, and after how many calls all fail
pub record MemoryState : Type 0 where
  pub calls : List Call
  pub room_calls : ℕ
  pub room_bytes : ℕ
  pub plan : CallPlan
  pub stop : Option ℕ

-- its next call is to fail
abbrev pub FailsNext : MemoryState → Type 0
FailsNext disk = IsPlanned disk.plan ⊎ IsSomeAnd disk.stop (λ stop. stop ≤ disk.plan.calls)

-- the same disk with one fault more
abbrev pub with_fault : MemoryState → MemoryState
with_fault disk = record disk { plan = record disk.plan { faults = count_after disk.plan.faults } }
