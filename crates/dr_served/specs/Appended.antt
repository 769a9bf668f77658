-- Which steps append, and what an append, of the next entry or of a vote, has come to by the contract of a
-- log.
use Rattle.std.specs.Prelude.{◌≡◌, ℕ, ◌+◌, ◌*◌, ◌<◌, ◌≤◌, Bool, true, false, length, Option, None}
use Rattle.dr_disk.specs.{Disk.Told, Images.Goes}
use Rattle.dr_entry.specs.declared.record.Record.{Record}
use Rattle.dr_entry.specs.declared.record.Record.TheVariants as records
use Rattle.dr_io.specs.Faults.{Rose}
use Rattle.dr_log.specs.{Standing.{IsBeforeOrAfter, IsNoneOrAll, entries_length}, State.{LogState, appended, appended_all, broken_off, broken_off_all}}
use Rattle.dr_log.specs.declared.fault.LogFault.{LogFault}
use Rattle.dr_log.specs.declared.fault.LogFault.TheVariants as faults
use Rattle.dr_log_bytes.specs.Content.{block_length}
use Rattle.dr_machine.specs.declared.step.Step.{Step, TheVariants.{Append, LogVote}}
use Rattle.dr_program.specs.{Replica.vote_of, Running.{Running, next_step}, declared.outcome.LogWhy.LogWhy}
use Rattle.dr_program.specs.declared.outcome.LogWhy.TheVariants as whys
use Rattle.dr_served.specs.Served.{IsDueVote, IsSafe, LosesNothing, entries_due, next_record}

-- the step is an append
abbrev pub is_append : Step → Bool
is_append Append = true
is_append (LogVote v) = true
is_append s = false

-- the step is an append: of the next entry, which is there, or of the vote that the member has due
abbrev pub MayLog : Running → Step → Type 0
MayLog r Append = r.replica.logged < length r.replica.history
MayLog r (LogVote v) = IsDueVote r.replica (vote_of r.replica v)
MayLog r s = ⊥

-- the member is due to append
pub record IsAppendDue (r : Running) : Type 0 where
  pub due : MayLog r (next_step r)
  pub room : length r.replica.history ≤ r.replica.room

-- the record that it appends
abbrev pub record_of : Running → Step → Record
record_of r (LogVote v) = records.Vote (vote_of r.replica v)
record_of r s = next_record r.replica.history r.replica.logged

abbrev pub record_due : Running → Record
record_due r = record_of r (next_step r)

-- it stands on the log, and is safe
pub record HasAppended {D : Type 0} (told : D → Option Told) (faults : D → ℕ) (log new : LogState D)
    (r : Running) : Type 0 where
  pub made : new ≡ appended log (record_due r) new.disk
  pub fits : log.content.length + block_length (record_due r) ≤ log.limit
  pub goes : Goes (told log.disk) (told new.disk)
      (λ s. IsBeforeOrAfter log.content (record_due r))
  pub lasting : LosesNothing told log new
  pub safe : IsSafe told new
  pub calm : faults new.disk ≡ faults log.disk

-- the disk failed
pub record HasBroken {D : Type 0} (told : D → Option Told) (faults : D → ℕ) (log new : LogState D)
    (r : Running) : Type 0 where
  pub made : new ≡ broken_off log (record_due r) new.disk
  pub goes : Goes (told log.disk) (told new.disk)
      (λ s. IsBeforeOrAfter log.content (record_due r))
  pub lasting : LosesNothing told log new
  pub rose : Rose (faults log.disk) (faults new.disk)
  pub later : faults log.disk ≤ faults new.disk

-- all entries that the member has due stand on the log together, and are safe
pub record HasAppendedAll {D : Type 0} (told : D → Option Told) (faults : D → ℕ) (log new : LogState D)
    (r : Running) : Type 0 where
  pub made : new ≡ appended_all log (entries_due r.replica) new.disk
  pub fits : log.content.length + entries_length (entries_due r.replica) ≤ log.limit
  pub goes : Goes (told log.disk) (told new.disk)
      (λ s. IsNoneOrAll log.content (entries_due r.replica))
  pub lasting : LosesNothing told log new
  pub safe : IsSafe told new
  pub calm : faults new.disk ≡ faults log.disk

-- the disk failed at them
pub record HasBrokenAll {D : Type 0} (told : D → Option Told) (faults : D → ℕ) (log new : LogState D)
    (r : Running) : Type 0 where
  pub made : new ≡ broken_off_all log (length (entries_due r.replica)) new.disk
  pub goes : Goes (told log.disk) (told new.disk)
      (λ s. IsNoneOrAll log.content (entries_due r.replica))
  pub lasting : LosesNothing told log new
  pub rose : Rose (faults log.disk) (faults new.disk)
  pub later : faults log.disk ≤ faults new.disk

-- once r was due to append them it has logged all of its history, which is as it was, and nothing else
pub record HasLoggedAll (r q : Running) : Type 0 where
  pub history : q.replica.history ≡ r.replica.history
  pub logged : q.replica.logged ≡ length r.replica.history
  pub votes : q.replica.votes ≡ r.replica.votes
  pub room : q.replica.room ≡ r.replica.room
  pub most : q.replica.banks * q.replica.roster ≡ r.replica.banks * r.replica.roster
  pub failed : q.failed ≡ None

-- the log of this length has no room for it
pub record IsOver {D : Type 0} (log : LogState D) (len : ℕ) (r : Running) : Type 0 where
  pub long : len ≡ log.content.length
  pub over : log.limit < len + block_length (record_due r)

-- why an append failed, as its log tells it
abbrev pub why_of : LogFault → LogWhy
why_of faults.DiskFault = whys.DiskFault
why_of (faults.LogFull len) = whys.LogFull len
