-- What the members of an age leave on their disks.
use Rattle.std.specs.Prelude.{◌≡◌, ℕ, ◌+◌, ◌<◌, ◌⊎◌, ◌++◌, length, take, drop, Option, Some}
use Rattle.dr_disk.specs.{Disk.Told, Images.IsLeft}
use Rattle.dr_entry.specs.{declared.end.End.TheVariants.DiskFault, declared.record.Record.Record}
use Rattle.dr_log.specs.Standing.{entries_length, votes_length}
use Rattle.dr_log_bytes.specs.{Content.{OnLog, block_length}, Grammar.StandFor}
use Rattle.dr_served.specs.Served.{HasDueBehind, IsRecordDue}
use Rattle.dr_program.specs.Replica.{Replica}

-- what is on a log behind an age, by what stood on it as the age began: the entries that its member has logged, which
-- begin with those, and the votes that it cast behind the others
abbrev pub with_logged : OnLog → Replica → OnLog
with_logged found r = record found {
  entries = take r.logged r.history;
  votes = found.votes ++ r.votes;
  length = found.length
      + (entries_length (drop (length found.entries) (take r.logged r.history)) + votes_length r.votes);
}

-- the disk of a member that stands so at its end failed: whatever a crash leaves has what the member has logged,
-- behind the votes that stood there those that it cast, or besides what it has due: one record, or all entries
pub record HasBroken (told : Option Told) (r : Replica) (found : OnLog) : Type 0 where
  pub failed : r.end ≡ Some DiskFault
  pub after : OnLog
  pub due : HasDueBehind r (with_logged found r) after
  pub left : IsLeft told (λ image. StandFor image (with_logged found r) ⊎ StandFor image after)

-- whatever a crash leaves of a disk that tells this has just what a member that stands so at its end has logged,
-- unless the disk failed
abbrev pub HasLeft : Option Told → Replica → OnLog → Type 0
HasLeft told r found =
    IsLeft told (λ image. StandFor image (with_logged found r)) ⊎ HasBroken told r found

-- a member that stands so at its end has a log of this length, and with the record that it has due it would be
-- longer than a log may be
pub record IsFullAt (r : Replica) (found : OnLog) (len : ℕ) : Type 0 where
  pub long : len ≡ (with_logged found r).length
  pub next : Record
  pub due : IsRecordDue r next
  pub over : 2147483648 < len + block_length next
