-- The seats of a group, and what they have sent one another.
use Rattle.std.specs.Prelude.{◌≡◌, ◌≢◌, ◌⊎◌, ℕ, ◌<◌, List, [], ◌∷◌, ◌++◌, Some}
use Rattle.dr_calls.specs.Wire.{lists_below}
use Rattle.dr_door.specs.Lone.{Lone}
use Rattle.dr_opening.specs.Lists.{as_lists}
use Rattle.dr_restart.specs.declared.lists.LogLists.{LogLists}
use Rattle.dr_script.specs.declared.script.Script.{Script}
use Rattle.dr_seat_laws.specs.Sitting.{InAge, IsAtRest, IsNewSitting, MayTell, Moves, Said, Sent, Sitting, Trying}

-- the seats by member, and all packets that were ever sent
pub record Seats : Type 0 where
  pub seats : ℕ → Sitting
  pub sent : List Sent

-- a seat does something. Any packet that was ever sent to it may come to it, be it the first time or once more
pub record SeatMoves (script : Script) (s next : Seats) : Type 0 where
  pub member : ℕ
  pub within : member < script.members
  pub moves : Moves script s.sent member (s.seats member) (next.seats member)
  pub others : (k : ℕ) → k ≢ member → next.seats k ≡ s.seats k
  pub sent : next.sent ≡ s.sent

-- a seat tells another what is true of it, while no call of its log waits for an answer
pub record SeatTells (script : Script) (s next : Seats) : Type 0 where
  pub member : ℕ
  pub within : member < script.members
  pub rest : IsAtRest (s.seats member)
  pub to : ℕ
  pub said : Said
  pub may : MayTell (s.seats member) said
  pub seats : (k : ℕ) → next.seats k ≡ s.seats k
  pub sent : next.sent ≡ s.sent ++ record { from = member; to = to; said = said } ∷ []

-- what may happen next. A packet that never comes is lost
abbrev pub SeatsStep : Script → Seats → Seats → Type 0
SeatsStep script s next = SeatMoves script s next ⊎ SeatTells script s next

-- what was before, the last first, from that on which begins
abbrev pub SeatsWay : Script → Seats → List Seats → Seats → Type 0
SeatsWay script begun [] s = s ≡ begun
SeatsWay script begun (x ∷ xs) s = SeatsWay script begun xs x × SeatsStep script x s

-- one has come to the other
abbrev pub HaveRun : Script → Seats → Seats → Type 0
HaveRun script begun s = (before : List Seats) × SeatsWay script begun before s

-- each seat was just opened, and nothing was sent
pub record AreNew (s : Seats) : Type 0 where
  pub each : (m : ℕ) → IsNewSitting (s.seats m)
  pub sent : s.sent ≡ []

-- what stands on the logs of the group's members
abbrev pub logs_on : Script → Seats → List LogLists
logs_on script s = lists_below (λ m. as_lists (s.seats m).log.content) script.members

-- the member of a seat runs in an age, and its door stands so
pub record RunsIn (s : Sitting) (age : ℕ) (d : Lone) : Type 0 where
  pub try : Trying
  pub tries : s.try ≡ Some try
  pub same : try.call.age ≡ age
  pub inside : InAge
  pub runs : s.age ≡ Some inside
  pub door : inside.door ≡ d
