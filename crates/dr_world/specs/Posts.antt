-- The letters for late members, and the memory for them.
use Rattle.std.specs.Prelude.{◌≡◌, ℕ, ◌+◌, ◌≤◌, List, Option, Some, count_by, is_some, length}
use Rattle.dr_entry.specs.declared.entry.Entry.{Entry}
use Rattle.dr_history.specs.Members.{members_of}
use Rattle.dr_machine.specs.Group.{Group, late_members}
use Rattle.dr_program.specs.{Presence.present_at, Replica.Replica}

-- the letters, by number, and how many lists are left for further ones, each with room for so many entries
pub record PostsOf : Type 0 where
  pub letters : List (Option (List Entry))
  pub left : ℕ
  pub room : ℕ

-- how many places have something
abbrev pub count_filled : {A : Type 0} → List (Option A) → ℕ
count_filled places = count_by is_some places

-- a list is left for each late member of the group that has no letter, with room for the history of any replica
pub record HasLists (g : Group) (rs : List (Option Replica)) (p : PostsOf) : Type 0 where
  pub enough : length (members_of (late_members g)) ≤ p.left + count_filled p.letters
  pub room : (m : ℕ) (r : Replica) → present_at rs m ≡ Some r → r.room ≤ p.room
