-- What a valid record is, and the one spelling of each.
use Rattle.std.specs.{Int.{w16, w32, to_be_bytes}, List.flat_map}
use Rattle.std.specs.Prelude.{◌≡◌, ⊤, ℕ, ◌<◌, ◌≤◌, ◌^◌, List, [], ◌∷◌, ◌++◌, length, take, slice_index}
use Rattle.dr_entry.specs.{declared.entry.Entry.{Entry, TheVariants.{View, Msg}}, declared.record.Record.Record}
use Rattle.dr_entry.specs.{declared.limits.TheConstants.{MAX_MEMBERS, MAX_MESSAGE_LENGTH}, declared.record.Vote.Vote}
use Rattle.dr_entry.specs.declared.record.Record.TheVariants as records

-- a view has members; a message has a sender of the greatest roster, and not too many bytes
abbrev pub IsValidEntry : Entry → Type 0
IsValidEntry (View age number members) = 0 < members
IsValidEntry (Msg sender index bytes) = (sender < MAX_MEMBERS) × (length bytes ≤ MAX_MESSAGE_LENGTH)

-- in a roster of members, its ballot and its leavers are of the roster, and nobody else has a trim
pub record IsValidVote (v : Vote) : Type 0 where
  pub members : v.members ≤ MAX_MEMBERS
  pub ballot : v.ballot < v.members
  pub leavers : v.value.leavers < 2 ^ v.members
  pub trim : (s : ℕ) → v.members ≤ s → slice_index v.value.trim s ≡ 0

abbrev pub IsValid : Record → Type 0
IsValid (records.Entry entry) = IsValidEntry entry
IsValid (records.Vote vote) = IsValidVote vote
IsValid (records.AgeVote vote) = 0 < vote.members
IsValid (records.Cut keep) = ⊤
IsValid records.Upgrade = ⊤

-- each number fits its field
abbrev pub FitsEntry : Entry → Type 0
FitsEntry (View age number members) = (age < 2 ^ 16) × (number < 2 ^ 8) × (members < 2 ^ 16)
FitsEntry (Msg sender index bytes) = index < 2 ^ 32

pub record FitsVote (v : Vote) : Type 0 where
  pub age : v.age < 2 ^ 16
  pub view : v.view < 2 ^ 8
  pub places : length v.value.trim ≡ MAX_MEMBERS
  pub trim : (s : ℕ) → slice_index v.value.trim s < 2 ^ 32

abbrev pub Fits : Record → Type 0
Fits (records.Entry entry) = FitsEntry entry
Fits (records.Vote vote) = FitsVote vote
Fits (records.AgeVote vote) = (vote.age < 2 ^ 16) × (vote.members < 2 ^ 16)
Fits (records.Cut keep) = keep < 2 ^ 32
Fits records.Upgrade = ⊤

abbrev pub entry_spelling : Entry → List ℕ
entry_spelling (View age number members) = 1 ∷ to_be_bytes w16 age ++ number ∷ to_be_bytes w16 members
entry_spelling (Msg sender index bytes) = 2 ∷ sender ∷ to_be_bytes w32 index ++ length bytes ∷ bytes

abbrev pub vote_spelling : Vote → List ℕ
vote_spelling v =
    3 ∷ to_be_bytes w16 v.age ++ v.view ∷ v.ballot ∷ to_be_bytes w16 v.value.leavers
    ++ v.members ∷ flat_map (to_be_bytes w32) (take v.members v.value.trim)

-- the bytes of a record: its kind, and its fields in order, each number with its greatest byte first
abbrev pub spelling : Record → List ℕ
spelling (records.Entry entry) = entry_spelling entry
spelling (records.Vote vote) = vote_spelling vote
spelling (records.AgeVote vote) = 4 ∷ to_be_bytes w16 vote.age ++ to_be_bytes w16 vote.members
spelling (records.Cut keep) = 5 ∷ to_be_bytes w32 keep
spelling records.Upgrade = 6 ∷ []

-- the first n bytes are the spelling of the valid record r
pub record Spells (bytes : List ℕ) (r : Record) (n : ℕ) : Type 0 where
  pub valid : IsValid r
  pub fits : Fits r
  pub count : n ≡ length (spelling r)
  pub front : take n bytes ≡ spelling r
