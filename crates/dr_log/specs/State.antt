-- What a log is to its callers, and what an append makes of it.
use Rattle.std.specs.Prelude.{◌≡◌, ℕ, ◌+◌, ◌-◌, ◌<◌, ◌≤◌, Bool, true, List, length, Result, Ok, Err}
use Rattle.dr_entry.specs.{declared.entry.Entry.Entry, declared.record.Record.Record}
use Rattle.dr_entry.specs.declared.record.Record.TheVariants as records
use Rattle.dr_log.specs.{Standing.with_entries, declared.fault.LogFault.{LogFault, TheVariants.{DiskFault, LogFull}}}
use Rattle.dr_log_bytes.specs.Content.{OnLog, with_record}

-- the disk, what is on the log, the greatest length that it may have, for how many more entries, votes and other
-- records there is room, and whether an append failed
pub record LogState (D : Type 0) : Type 0 where
  pub disk : D
  pub content : OnLog
  pub limit : ℕ
  pub spare_entries : ℕ
  pub spare_votes : ℕ
  pub spare_others : ℕ
  pub failed : Bool

-- how many of the spares a record takes: one, of its kind
abbrev pub as_entry : Record → ℕ
as_entry (records.Entry entry) = 1
as_entry (records.Vote vote) = 0
as_entry (records.AgeVote vote) = 0
as_entry (records.Cut keep) = 0
as_entry records.Upgrade = 0

abbrev pub as_vote : Record → ℕ
as_vote (records.Entry entry) = 0
as_vote (records.Vote vote) = 1
as_vote (records.AgeVote vote) = 0
as_vote (records.Cut keep) = 0
as_vote records.Upgrade = 0

abbrev pub as_other : Record → ℕ
as_other (records.Entry entry) = 0
as_other (records.Vote vote) = 0
as_other (records.AgeVote vote) = 1
as_other (records.Cut keep) = 1
as_other records.Upgrade = 1

-- the log after an append to its disk that has come to this
abbrev pub appended : {D : Type 0} → LogState D → Record → D → LogState D
appended log r disk = record log {
  disk = disk;
  content = with_record r log.content;
  spare_entries = log.spare_entries - as_entry r;
  spare_votes = log.spare_votes - as_vote r;
  spare_others = log.spare_others - as_other r;
}

-- the log after an append that failed
abbrev pub broken_off : {D : Type 0} → LogState D → Record → D → LogState D
broken_off log r disk = record log {
  disk = disk;
  spare_entries = log.spare_entries - as_entry r;
  spare_votes = log.spare_votes - as_vote r;
  spare_others = log.spare_others - as_other r;
  failed = true;
}

-- the log after these entries were appended to its disk, which has come to this
abbrev pub appended_all : {D : Type 0} → LogState D → List Entry → D → LogState D
appended_all log news disk = record log {
  disk = disk;
  content = with_entries news log.content;
  spare_entries = log.spare_entries - length news;
}

-- the log after an append of so many that failed
abbrev pub broken_off_all : {D : Type 0} → LogState D → ℕ → D → LogState D
broken_off_all log count disk = record log {
  disk = disk;
  spare_entries = log.spare_entries - count;
  failed = true;
}

-- An append to a log of this length answers that it is full exactly where with so many bytes more it would
-- exceed the limit, and tells its present length.
abbrev pub KeepsLimit : ℕ → ℕ → ℕ → {T : Type 0} → Result T LogFault → Type 0
KeepsLimit limit len size (Ok _) = len + size ≤ limit
KeepsLimit limit len size (Err DiskFault) = len + size ≤ limit
KeepsLimit limit len size (Err (LogFull at)) = (at ≡ len) × (limit < len + size)
