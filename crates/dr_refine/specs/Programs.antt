-- Replicas and programs of a group, in their form.
use Rattle.std.specs.Prelude.{◌≡◌, ℕ, ◌<◌, ◌≤◌, false, List, ◌++◌, length, slice_set, Option, Some}
use Rattle.dr_entry.specs.declared.entry.Entry.{Entry}
use Rattle.dr_history.specs.History.{last_view}
use Rattle.dr_words.specs.{Layout.{words_of, word_index_of}, declared.column.TheConstants.BEAT_COLUMN}
use Rattle.dr_machine.specs.{Effects.one_more, Group.{Group, IsGroup, IsPresent, banks, roster}}
use Rattle.dr_machine.specs.declared.{event.Act.TheVariants.{Receive, Deliver, Finish}, step.Step.Step}
use Rattle.dr_machine.specs.declared.step.Step.TheVariants.{Do}
use Rattle.dr_program.specs.{Form.{HasForm, IsOf, IsRunningMember}, Program.{Program, letter_for}, Running.Running}
use Rattle.dr_program.specs.{Presence.present_at, Reading.Shared}
use Rattle.dr_program.specs.{Replica.{Replica, count, finished, greatest, is_inside}, Steps.{stored, stored_letters}}

-- the table has a word for each bank, copy, row and column, and a letter or none for each member
abbrev pub IsTable : Group → List ℕ → Type 0
IsTable g words = length words ≡ words_of (roster g) g.window (banks g)

abbrev pub ArePosts : Group → List (Option (List Entry)) → Type 0
ArePosts g letters = length letters ≡ roster g

-- the table with another word at an index
abbrev pub with_table_word : Shared → ℕ → ℕ → Shared
with_table_word table i x = record table { words = slice_set table.words i x }

-- the table after an act of member m, with replica r before it: the own beat word takes the number of acts
abbrev pub acted_table : Group → Shared → ℕ → Replica → Shared
acted_table g table m r = with_table_word table (word_index_of (roster g) g.window r.view m m BEAT_COLUMN)
    (one_more 64 r.acts)

-- the table after a step
abbrev pub stored_in : Shared → Replica → Step → Shared
stored_in table r s = record {
  words = stored table.words r s;
  letters = stored_letters table.letters r s;
}

-- a letter that a late member can go on from: it begins with the member's history, and its last View is a later
-- one
pub record IsLetterFor (r : Replica) (letter : List Entry) : Type 0 where
  pub rest : List Entry
  pub begins : letter ≡ r.history ++ rest
  pub later : 0 < (last_view (0, 0) letter).0

-- of these replicas and this table of a group, member m, which is there, has replica r, in form
pub record IsMember (g : Group) (rs : List (Option Replica)) (table : Shared) (m : ℕ) (r : Replica) : Type 0 where
  pub group : IsGroup g
  pub cells : IsTable g table.words
  pub posts : ArePosts g table.letters
  pub there : present_at rs m ≡ Some r
  pub form : HasForm r
  pub of : IsOf g m r

-- a program of the group: a place for each member of the roster, at which whoever is there stands, in form and as
-- that of its number, and nobody else; and the whole table
pub record IsProgram (g : Group) (p : Program) : Type 0 where
  pub all : length p.members ≡ roster g
  pub form : (m : ℕ) (r : Running) → present_at p.members m ≡ Some r → IsRunningMember r
  pub of : (m : ℕ) (r : Running) → present_at p.members m ≡ Some r → IsOf g m r.replica
  pub there : (m : ℕ) → m < roster g → IsPresent g m → (r : Running) × (present_at p.members m ≡ Some r)
  pub table : IsTable g p.table
  pub posts : ArePosts g p.letters

-- each letter that a member hasn't taken yet is one that it can go on from
abbrev pub AreLetters : Program → Type 0
AreLetters p = (m : ℕ) (r : Running) (letter : List Entry) → present_at p.members m ≡ Some r
    → is_inside r.replica ≡ false → letter_for p m ≡ Some letter → IsLetterFor r.replica letter

-- a replica has room for what a step adds: for an item of a sender, for an entry, and for what ends a view,
-- of which no more are its own messages than it has
abbrev pub HasRoomFor : Replica → Step → Type 0
HasRoomFor r (Do (Receive s)) = count r s < greatest r.totals
HasRoomFor r (Do Deliver) = length r.history < r.room
HasRoomFor r (Do Finish) =
    (length (finished r).history ≤ r.room) × ((finished r).base ≤ length r.messages)
HasRoomFor r s = Unit {0}
