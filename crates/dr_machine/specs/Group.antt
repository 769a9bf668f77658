-- A group in one age: how the age opens, and the window of its rings.
use Rattle.std.specs.Prelude.{◌≡◌, ℕ, ◌+◌, ◌^◌, ◌<◌, ◌≤◌, List, length, slice_get, slice_index, Some}
use Rattle.dr_entry.specs.declared.limits.TheConstants.{MAX_MEMBERS, MAX_MESSAGES, MAX_MESSAGE_LENGTH}
use Rattle.dr_history.specs.{History.messages_of, Members.members_of, Soundness.{IsPresentIn, Sound, whole_roster}}
use Rattle.dr_history.specs.declared.opening.Opening.{Opening}
use Rattle.dr_words.specs.{Columns.columns_of, Masks.without}

-- what is fixed for an age: its opening, with the script's messages by member of the roster, and the slots
-- of a ring
pub record Group : Type 0 where
  pub opening : Opening
  pub window : ℕ

-- the number of members of the roster
abbrev pub roster : Group → ℕ
roster g = length g.opening.messages

-- member m is there in this age
abbrev pub IsPresent : Group → ℕ → Type 0
IsPresent g m = IsPresentIn g.opening m

-- all members of the roster are there
abbrev pub AllPresent : Group → Type 0
AllPresent g = g.opening.present ≡ whole_roster g.opening

-- the members that are late in this age: they are there, and not in its first view
abbrev pub late_members : Group → ℕ
late_members g = without g.opening.present g.opening.members

-- the number of banks of the table: one for each view that an age can have
abbrev pub banks : Group → ℕ
banks g = roster g + length (members_of (late_members g))

-- the number of columns of a row
abbrev pub columns : Group → ℕ
columns g = columns_of (roster g) g.window

-- the ranges that a group keeps, and the soundness of its start
pub record IsGroup (g : Group) : Type 0 where
  pub some_member : 1 ≤ roster g
  pub most_members : roster g ≤ MAX_MEMBERS
  pub some_slot : 1 ≤ g.window
  pub most_slots : g.window ≤ 8
  pub messages : (s : ℕ) → length (messages_of g.opening s) ≤ MAX_MESSAGES
  pub short : (s i : ℕ) (bytes : List ℕ) → slice_get (messages_of g.opening s) i ≡ Some bytes
      → length bytes ≤ MAX_MESSAGE_LENGTH
  pub bytes : (s i : ℕ) (bytes : List ℕ) → slice_get (messages_of g.opening s) i ≡ Some bytes
      → (k : ℕ) → slice_index bytes k < 256
  pub age : g.opening.age < 2 ^ 16
  pub sound : Sound g.opening
