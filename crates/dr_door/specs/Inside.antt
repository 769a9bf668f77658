-- How the fields of `Door` hold what contracts see of it, and what always holds between its member and its words.
use Rattle.std.specs.Prelude.{◌≡◌, ◌≢◌, ⊤, ℕ, ◌%◌, ◌<◌, ◌≤◌, ◌==◌, if◌then◌else◌, All, List, length, slice_index}
use Rattle.dr_entry.specs.{Spelling.IsValidEntry, declared.entry.Item.{Item, TheVariants.{Null, Text}}}
use Rattle.dr_entry.specs.declared.limits.TheConstants.{MAX_MESSAGE_LENGTH}
use Rattle.dr_program.specs.{Form.IsRunningMember, Replica.{Replica, me}}
use Rattle.dr_rows.specs.Words.{Words, last_pushed, seen}
use Rattle.dr_words.specs.{Columns.columns_of, Form.IsInForm, Grown.HasGrown, Layout.{word_index_of, words_of}}
use Rattle.dr_door.specs.{Coming.{copy_of, row_in}, Lone.Lone, declared.door.Door.TheInside.Inside}

abbrev pub door_inside : Inside → Lone
door_inside a = record { member = a.member; words = a.words.items }

-- of the words of member m, for a roster of so many members and a window of so many slots, those of others in its own
-- copy are in form, and in the copies of others stands nothing but its own row
pub record AreInPlace (members window m : ℕ) (words : List ℕ) : Type 0 where
  pub form : (index : ℕ) → copy_of members window index ≡ m → row_in members window index ≢ m
      → IsInForm members (index % columns_of members window) (slice_index words index)
  pub rest : (index : ℕ) → copy_of members window index ≢ m → row_in members window index ≢ m
      → slice_index words index ≡ 0

-- those of others in its view have grown from the ones that it saw
abbrev pub HaveGrown : ℕ → ℕ → ℕ → ℕ → Words → List ℕ → Type 0
HaveGrown members window m view rows words =
    (i c : ℕ) → i < members → i ≢ m → c < columns_of members window
    → HasGrown members c (seen rows i c) (slice_index words (word_index_of members window view m i c))

-- in its own row of others' copies stand the words that it pushed last, in its view, and nothing yet in later ones
abbrev pub HaveSent : ℕ → ℕ → ℕ → ℕ → Words → List ℕ → Type 0
HaveSent members window m view rows words =
    (v j c : ℕ) → view ≤ v → j < members → j ≢ m → c < columns_of members window
    → slice_index words (word_index_of members window v j m c) ≡ (if v == view then last_pushed rows j c else 0)

-- the item is of a length that a message may have
abbrev pub IsShort : Item → Type 0
IsShort Null = ⊤
IsShort (Text bytes) = length bytes ≤ MAX_MESSAGE_LENGTH

-- these are words of the member's table, and what it has delivered, and will, is valid
pub record IsKept (r : Replica) (words : List ℕ) : Type 0 where
  pub whole : length words ≡ words_of r.roster r.window r.banks
  pub places : AreInPlace r.roster r.window (me r) words
  pub grown : HaveGrown r.roster r.window (me r) r.view r.rows words
  pub sent : HaveSent r.roster r.window (me r) r.view r.rows words
  pub entries : All IsValidEntry r.history
  pub items : All IsShort r.items

pub record IsInsideDoor (a : Inside) : Type 0 where
  pub form : IsRunningMember a.member
  pub kept : IsKept a.member.replica a.words.items
