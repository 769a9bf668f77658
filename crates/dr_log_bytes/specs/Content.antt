-- What records make of a log, one after the other, and which of them may stand behind others.
use Rattle.std.specs.Prelude.{◌≡◌, ⊤, ℕ, ◌+◌, ◌≤◌, Bool, true, false, List, [], ◌∷◌, ◌++◌, length, take}
use Rattle.dr_entry.specs.{Spelling.spelling, declared.entry.Entry.Entry, declared.record.AgeVote.AgeVote}
use Rattle.dr_entry.specs.declared.record.{Record.Record, Vote.Vote}
use Rattle.dr_entry.specs.declared.record.Record.TheVariants as records

-- what is on a log: its entries, its votes and its age votes, each kind in order, whether it is of the newer
-- format, so that it may hold age votes and cuts, and its length in bytes up to the closed gate, with it
pub record OnLog : Type 0 where
  pub entries : List Entry
  pub votes : List Vote
  pub age_votes : List AgeVote
  pub newer : Bool
  pub length : ℕ

-- nothing, on a log of one of the formats: its first bytes and a closed gate
abbrev pub empty_of : Bool → OnLog
empty_of newer = record { entries = []; votes = []; age_votes = []; newer = newer; length = 9 }

-- how many bytes a record takes with its gate
abbrev pub block_length : Record → ℕ
block_length r = 1 + length (spelling r)

-- the lists and the format with one record more: an entry and a vote of either kind stand behind those of their
-- kind, a cut keeps the first entries alone, and an upgrade makes the log one of the newer format
abbrev pub sorted_in : Record → OnLog → OnLog
sorted_in (records.Entry entry) c = record c { entries = c.entries ++ entry ∷ [] }
sorted_in (records.Vote vote) c = record c { votes = c.votes ++ vote ∷ [] }
sorted_in (records.AgeVote vote) c = record c { age_votes = c.age_votes ++ vote ∷ [] }
sorted_in (records.Cut keep) c = record c { entries = take keep c.entries }
sorted_in records.Upgrade c = record c { newer = true }

-- what is on a log with one record more, which makes it longer by its block
abbrev pub with_record : Record → OnLog → OnLog
with_record r c = record (sorted_in r c) { length = c.length + block_length r }

-- the record may stand on a log of this format behind so many entries: age votes and cuts in the newer format alone,
-- an upgrade in the older one, and a cut keeps no more entries than there are
abbrev pub MayFollow : Bool → ℕ → Record → Type 0
MayFollow newer count (records.Entry entry) = ⊤
MayFollow newer count (records.Vote vote) = ⊤
MayFollow newer count (records.AgeVote vote) = newer ≡ true
MayFollow newer count (records.Cut keep) = (newer ≡ true) × (keep ≤ count)
MayFollow newer count records.Upgrade = newer ≡ false

-- the record may stand behind what is on the log. Any other is misplaced
abbrev pub IsPlaced : OnLog → Record → Type 0
IsPlaced c r = MayFollow c.newer (length c.entries) r

-- after these records
abbrev pub content_after : OnLog → List Record → OnLog
content_after c [] = c
content_after c (r ∷ rs) = content_after (with_record r c) rs

-- each of which may stand behind those before it
abbrev pub ArePlaced : OnLog → List Record → Type 0
ArePlaced c [] = ⊤
ArePlaced c (r ∷ rs) = IsPlaced c r × ArePlaced (with_record r c) rs
