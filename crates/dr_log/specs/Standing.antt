-- What crashes leave of a log, and what they lose of it.
use Rattle.std.specs.Prelude.{◌≡◌, ℕ, ◌+◌, ◌*◌, if◌then◌else◌, List, ◌++◌, length, map, sum_by, ◌⊎◌, ◌↔◌}
use Rattle.dr_entry.specs.{Spelling.{entry_spelling, vote_spelling}, declared.entry.Entry.Entry}
use Rattle.dr_entry.specs.declared.record.{AgeVote.AgeVote, Record.Record, Vote.Vote}
use Rattle.dr_entry.specs.declared.record.Record.TheVariants as records
use Rattle.dr_disk.specs.{Calls.State, Images.IsImage}
use Rattle.dr_log_bytes.specs.{Content.{OnLog, with_record}, Grammar.StandFor}

-- these entries as records
abbrev pub as_records : List Entry → List Record
as_records = map records.Entry

-- how many bytes these entries take with their gates, and these votes
abbrev pub entries_length : List Entry → ℕ
entries_length = sum_by (λ entry. 1 + length (entry_spelling entry))

abbrev pub votes_length : List Vote → ℕ
votes_length = sum_by (λ vote. 1 + length (vote_spelling vote))

-- the length of a log on which nothing but these stands: first bytes, blocks and the closed gate
abbrev pub log_length : List Entry → List Vote → ℕ
log_length entries votes = 9 + entries_length entries + votes_length votes

-- a log on which this is has so many bytes at least: what was cut keeps its bytes
abbrev pub least_length : OnLog → ℕ
least_length c = log_length c.entries c.votes + 6 * length c.age_votes

-- what is on a log, with these entries behind its own
abbrev pub with_entries : List Entry → OnLog → OnLog
with_entries news c =
    record c { entries = c.entries ++ news; length = c.length + entries_length news }

-- what is on a log begins with all that is on another
pub record HasAllOf (first c : OnLog) : Type 0 where
  pub more_entries : List Entry
  pub more_votes : List Vote
  pub more_age_votes : List AgeVote
  pub entries : c.entries ≡ first.entries ++ more_entries
  pub votes : c.votes ≡ first.votes ++ more_votes
  pub age_votes : c.age_votes ≡ first.age_votes ++ more_age_votes

-- bytes stand for a log that has all of this, and maybe more behind it: they have lost none
pub record LosesNone (first : OnLog) (bytes : List ℕ) : Type 0 where
  pub content : OnLog
  pub stands : StandFor bytes content
  pub has : HasAllOf first content

-- bytes stand for what was on the log, or for that with one record more
abbrev pub IsBeforeOrAfter : OnLog → Record → List ℕ → Type 0
IsBeforeOrAfter c r bytes = StandFor bytes c ⊎ StandFor bytes (with_record r c)

-- bytes stand for what was on the log, or for that with all of the new entries
abbrev pub IsNoneOrAll : OnLog → List Entry → List ℕ → Type 0
IsNoneOrAll c news bytes = StandFor bytes c ⊎ StandFor bytes (with_entries news c)

-- what is on a log, as one of the newer format: with an upgrade behind it where it was of the older one
abbrev pub in_newer_format : OnLog → OnLog
in_newer_format c = if c.newer then c else with_record records.Upgrade c

-- and with an age vote behind that
abbrev pub with_age_vote : AgeVote → OnLog → OnLog
with_age_vote vote c = with_record (records.AgeVote vote) (in_newer_format c)

-- bytes stand for what was on the log, or for that in the newer format
abbrev pub MayBeUpgraded : OnLog → List ℕ → Type 0
MayBeUpgraded c bytes = StandFor bytes c ⊎ StandFor bytes (in_newer_format c)

-- or also for that with the age vote
abbrev pub MayBeVoted : OnLog → AgeVote → List ℕ → Type 0
MayBeVoted c vote bytes = MayBeUpgraded c bytes ⊎ StandFor bytes (with_age_vote vote c)

-- two lists of bytes stand for the same, or for nothing both
abbrev pub StandAlike : List ℕ → List ℕ → Type 0
StandAlike first second = (c : OnLog) → StandFor first c ↔ StandFor second c

-- an image stands for what some image of the disk from before stood for
pub record KeepsRecords (s : State) (image : List ℕ) : Type 0 where
  pub before : List ℕ
  pub was : IsImage s before
  pub alike : StandAlike before image
