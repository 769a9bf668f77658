-- What the program holds of a group, and the world that it is.
use Rattle.std.specs.Prelude.{◌≡◌, ℕ, ◌<◌, List, length, Some, Option}
use Rattle.dr_entry.specs.declared.entry.Entry.{Entry}
use Rattle.dr_script.specs.declared.script.Script.{Script}
use Rattle.dr_restart.specs.{Groups.group_of, declared.start.Start.Start}
use Rattle.dr_machine.specs.{Group.{Group, IsGroup, IsPresent, roster}, Run.ComesOfEvents, World.World}
use Rattle.dr_program.specs.{Form.{HasForm, IsOf}, Presence.present_at, Reading.{Shared, world_of}, Replica.Replica}
use Rattle.dr_refine.specs.Programs.{ArePosts, IsTable}

-- a script and the start of an age, the replicas by number, with an empty place for a member that is absent, the
-- words of the table, and the letters for late members, by number
pub record Held : Type 0 where
  pub script : Script
  pub start : Start
  pub replicas : List (Option Replica)
  pub table : List ℕ
  pub letters : List (Option (List Entry))

-- the group that it is of
abbrev pub its_group : Held → Group
its_group h = group_of h.script h.start

-- what its members share
abbrev pub shared_of : Held → Shared
shared_of h = record { words = h.table; letters = h.letters }

-- the world that it is
abbrev pub its_world : Held → World
its_world h = world_of (its_group h) h.replicas (shared_of h)

-- the replicas are the members of the group that are there
pub record AreMembers (g : Group) (rs : List (Option Replica)) : Type 0 where
  pub all : length rs ≡ roster g
  pub there : (m : ℕ) → m < roster g → IsPresent g m → (r : Replica) × (present_at rs m ≡ Some r)
  pub form : (m : ℕ) (r : Replica) → present_at rs m ≡ Some r → HasForm r
  pub of : (m : ℕ) (r : Replica) → present_at rs m ≡ Some r → IsOf g m r

-- the members of a group, in a world that some events lead to
pub record IsHeld (h : Held) : Type 0 where
  pub group : IsGroup (its_group h)
  pub members : AreMembers (its_group h) h.replicas
  pub table : IsTable (its_group h) h.table
  pub posts : ArePosts (its_group h) h.letters
  pub events : ComesOfEvents (its_group h) (its_world h)
