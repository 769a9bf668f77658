-- Programs whose members' words stand in the table as they were pushed.
use Rattle.std.specs.Prelude.{◌≡◌, ◌≢◌, ℕ, ◌+◌, ◌*◌, ◌^◌, ◌<◌, ◌≤◌, length, None, Some}
use Rattle.dr_entry.specs.declared.limits.TheConstants.{MAX_MEMBERS}
use Rattle.dr_history.specs.Soundness.{IsNobodyLate}
use Rattle.dr_machine.specs.{Group.{AllPresent, Group, IsGroup, banks, columns, roster}, Run.IsReached}
use Rattle.dr_program.specs.{Presence.present_at, Program.Program, Reading.world, Replica.{Replica, greatest}}
use Rattle.dr_program.specs.Running.{Running}
use Rattle.dr_refine.specs.Programs.{IsProgram}
use Rattle.dr_rows.specs.Words.{last_pushed}
use Rattle.dr_turn.specs.Work.{refill, work}

-- a history has room for an entry of each place of the age, and for one more
abbrev pub HasRooms : Group → Replica → Type 0
HasRooms g r = length g.opening.start + banks g + greatest r.totals * roster g < r.room

-- the work that a replica has as its age opens, and more
abbrev pub all_work : Replica → ℕ
all_work r =
    refill r * r.banks
    + (greatest r.totals * r.roster + 2 ^ 65 + 2 * r.room + 2 ^ MAX_MEMBERS + 2 ^ MAX_MEMBERS + MAX_MEMBERS + 4)

-- with each act a member has done some of its work, or has begun a turn
abbrev pub HasWorked : Running → Type 0
HasWorked r = r.replica.end ≡ None
    → r.replica.acts + work r.replica ≤ all_work r.replica + r.replica.turns

-- a program of a group of which nobody is late, which all of the roster are in, in a reached world; its members keep their limits and
-- have done
-- their acts for work, and their words stand in the table as they were last pushed
pub record IsSteady (g : Group) (p : Program) : Type 0 where
  pub group : IsGroup g
  pub whole : AllPresent g
  pub nobody : IsNobodyLate g.opening
  pub program : IsProgram g p
  pub reached : IsReached g (world g p)
  pub limits : (m : ℕ) (r : Running) → present_at p.members m ≡ Some r → r.limit < 2 ^ 32
  pub rooms : (m : ℕ) (r : Running) → present_at p.members m ≡ Some r → HasRooms g r.replica
  pub works : (m : ℕ) (r : Running) → present_at p.members m ≡ Some r → HasWorked r
  pub pushes : (m : ℕ) (r : Running) → present_at p.members m ≡ Some r → (j c : ℕ) → j < roster g
      → j ≢ m → c < columns g
      → last_pushed r.replica.rows j c ≡ (world g p).table r.replica.view j m c
