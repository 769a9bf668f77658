-- What a `MemorySink` is to its callers.
use Rattle.std.specs.Prelude.{ℕ, ◌-◌, List, Result, Ok, Err}
use Rattle.dr_io.specs.Plan.{CallPlan}

-- the bytes that are held, for how many more there is room, and which calls fail
pub record SinkState : Type 0 where
  pub held : List ℕ
  pub room : ℕ
  pub plan : CallPlan

-- the room after a call with this answer
abbrev pub room_after : {E : Type 0} → Result ℕ E → ℕ → ℕ
room_after (Ok n) room = room - n
room_after (Err _) room = room
