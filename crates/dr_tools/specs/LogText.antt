-- What is printed of a log.
use Rattle.std.specs.{Fmt.decimal, List.{concat, enumerate_from, flat_map}}
use Rattle.std.specs.Prelude.{◌≡◌, ◌≢◌, ◌⊎◌, ℕ, ◌+◌, ◌-◌, ◌<◌, ◌≤◌, Bool, true, List, [], ◌∷◌, ◌++◌, length, take, codes, ◌==◌, if◌then◌else◌}
use Rattle.dr_entry.specs.declared.record.{AgeVote.AgeVote, Record.Record, Vote.Vote}
use Rattle.dr_entry.specs.declared.record.Record.TheVariants as records
use Rattle.dr_log_bytes.specs.{Content.block_length, Grammar.{BreaksAt, IsLog, blocks, magic_of}}
use Rattle.dr_text.specs.declared.last.Last.TheVariants as lasts
use Rattle.dr_text.specs.Report.{entry_text, last_text, mask_text}

-- the members that a vote names, those whom its view loses and those whom it gets, or nobody
abbrev pub naming_text : ℕ → List ℕ
naming_text mask = if mask == 0 then codes "nobody" else mask_text mask

-- how many items of a member of the roster are taken, with a comma before all but the first
abbrev pub taken_text : ℕ → ℕ → List ℕ
taken_text number count = concat
    ((if number == 0 then codes " " else codes ", ") ∷ decimal count ∷ codes " of " ∷ decimal number ∷ [])

-- the age and the view of a vote
abbrev pub place_text : Vote → List ℕ
place_text v = concat (codes " vote  age " ∷ decimal v.age ∷ codes " view " ∷ decimal v.view ∷ [])

-- its ballot, and whom it names
abbrev pub ballot_text : Vote → List ℕ
ballot_text v =
    concat (codes " ballot " ∷ decimal v.ballot ∷ codes " naming " ∷ naming_text v.value.leavers ∷ [])

-- how many items of each member of the roster are taken
abbrev pub trim_text : Vote → List ℕ
trim_text v = concat
    (codes "; items" ∷ flat_map (λ t. taken_text t.0 t.1) (enumerate_from 0 (take v.members v.value.trim))
    ∷ codes "\n" ∷ [])

-- a vote
abbrev pub vote_text : Vote → List ℕ
vote_text v = place_text v ++ (ballot_text v ++ trim_text v)

-- a vote for an age
abbrev pub age_vote_text : AgeVote → List ℕ
age_vote_text v = concat
    (codes " age vote  age " ∷ decimal v.age ∷ codes " members " ∷ mask_text v.members ∷ codes "\n" ∷ [])

-- a cut, by how many entries it keeps
abbrev pub cut_text : ℕ → List ℕ
cut_text keep = concat (codes " cut   keeps " ∷ decimal keep ∷ codes "\n" ∷ [])

-- a record before which this many entries stand: an entry has its number, and then is as in a report
abbrev pub record_text : ℕ → Record → List ℕ
record_text number (records.Entry entry) = concat (codes " entry " ∷ decimal number ∷ entry_text entry ∷ [])
record_text number (records.Vote vote) = vote_text vote
record_text number (records.AgeVote vote) = age_vote_text vote
record_text number (records.Cut keep) = cut_text keep
record_text number records.Upgrade = codes " upgrade\n"

-- the line of a record at this place, before which this many entries stand
abbrev pub record_line : ℕ → ℕ → Record → List ℕ
record_line at number r = decimal at ++ record_text number r

-- how many entries stand before what is behind a record
abbrev pub number_behind : ℕ → Record → ℕ
number_behind number (records.Entry entry) = number + 1
number_behind number (records.Vote vote) = number
number_behind number (records.AgeVote vote) = number
number_behind number (records.Cut keep) = keep
number_behind number records.Upgrade = number

-- whether what is behind a record is of the newer format
abbrev pub format_behind : Bool → Record → Bool
format_behind newer (records.Entry entry) = newer
format_behind newer (records.Vote vote) = newer
format_behind newer (records.AgeVote vote) = newer
format_behind newer (records.Cut keep) = newer
format_behind newer records.Upgrade = true

-- the lines of records, where the first begins at this place behind this many entries
abbrev pub records_text : ℕ → ℕ → List Record → List ℕ
records_text at number [] = []
records_text at number (r ∷ rs) =
    record_line at number r ++ records_text (at + block_length r) (number_behind number r) rs

-- the line of a closed gate, with the number of bytes behind it, where there are any
abbrev pub closed_line : ℕ → ℕ → List ℕ
closed_line at rest = if rest == 0 then concat (codes "closed at " ∷ decimal at ∷ codes "\n" ∷ [])
    else concat (codes "closed at " ∷ decimal at ∷ codes ", bytes behind it: " ∷ decimal rest ∷ codes "\n" ∷ [])

-- the line of the place at which bytes are damaged
abbrev pub damaged_line : ℕ → List ℕ
damaged_line at = concat (codes "damaged at " ∷ decimal at ∷ codes "\n" ∷ [])

-- What is printed of bytes, and the status: the records that they are, each at the place where it begins, and
-- the place of the closed gate with what stands behind it, or that at which they are damaged.
pub data IsTold (bytes text : List ℕ) (status : ℕ) : Type 0 where
  -- a log that is being made
  empty : length bytes ≤ 9 → text ≡ codes "empty\n" → status ≡ 0 → IsTold bytes text status
  -- a log of these records
  whole : 9 < length bytes → (newer : Bool) (rs : List Record) → IsLog bytes newer rs
      → text ≡ records_text 9 0 rs
      ++ closed_line (8 + length (blocks rs)) (length bytes - (9 + length (blocks rs)))
      → status ≡ 0 → IsTold bytes text status
  -- bytes that don't begin as a log
  no_log : 9 < length bytes → ((newer : Bool) → take 8 bytes ≢ magic_of newer) → text ≡ damaged_line 0
      → status ≡ 7 → IsTold bytes text status
  -- records that break off
  broken : 9 < length bytes → (at : ℕ) (front : BreaksAt bytes at)
      → text ≡ records_text 9 0 front.records ++ damaged_line at → status ≡ 7 → IsTold bytes text status

-- the most bytes that a log has
abbrev pub most_bytes : ℕ
most_bytes = 2147483648

-- what is said of bytes: that they are too many for a log, or what they are
abbrev pub IsSaid : List ℕ → List ℕ → ℕ → Type 0
IsSaid bytes text status =
    ((most_bytes < length bytes) × (text ≡ last_text lasts.TooLong) × (status ≡ 3))
    ⊎ ((length bytes ≤ most_bytes) × IsTold bytes text status)
