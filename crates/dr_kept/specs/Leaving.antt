-- What an age leaves on the logs of its members, by what was on them as it opened.
use Rattle.std.specs.Prelude.{◌≡◌, ◌⊎◌, ℕ, List, ◌++◌, length, take, Option, Some, is_some}
use Rattle.dr_entry.specs.{declared.end.End.TheVariants.DiskFault, declared.record.Record.Record}
use Rattle.dr_log.specs.Standing.{with_entries}
use Rattle.dr_log_bytes.specs.Content.{OnLog, with_record}
use Rattle.dr_served.specs.Served.{IsRecordDue, entries_due}
use Rattle.dr_program.specs.declared.deed.Deed.TheVariants as deeds
use Rattle.dr_program.specs.declared.outcome.LogWhy.TheVariants as whys
use Rattle.dr_program.specs.{Presence.present_at, Program.{IsRanFrom, Program}, Replica.Replica}
use Rattle.dr_program.specs.Running.{Running, next_deed}
use Rattle.dr_restart.specs.{Groups.first_group_of, Setups.IsBegun, declared.start.Start.Start}
use Rattle.dr_script.specs.declared.script.Script.{Script}
use Rattle.dr_opening.specs.{Contents.{IsOpenFor, voted_for}, Tries.{IsChosenOf, content_at}}

-- on a log that was open with `base` stands just what its member, which stands so, has logged: the
-- first entries of its history, and its votes behind those that were there
pub record HasJustLogged (base : OnLog) (r : Replica) (c : OnLog) : Type 0 where
  pub entries : c.entries ≡ take r.logged r.history
  pub votes : c.votes ≡ base.votes ++ r.votes
  pub age_votes : c.age_votes ≡ base.age_votes

-- the disk of the member failed in an append, and the member has ended by that or is to
abbrev pub HasDiskFailed : Running → Type 0
HasDiskFailed r = (r.failed ≡ Some whys.DiskFault) ⊎ (r.replica.end ≡ Some DiskFault)

-- An append of this record has begun: it is the next deed of the member, and a stop breaks it off; or the
-- member had the record due, and its disk failed in it.
abbrev pub HasBegunAppend : Running → Record → Type 0
HasBegunAppend r next =
    (next_deed r ≡ deeds.Append next) ⊎ (HasDiskFailed r × IsRecordDue r.replica next)

-- an append has begun, and its record stands there besides
pub record HasBegunNext (base : OnLog) (r : Running) (c : OnLog) : Type 0 where
  pub next : Record
  pub begun : HasBegunAppend r next
  pub before : OnLog
  pub logged : HasJustLogged base r.replica before
  pub is : c ≡ with_record next before

-- An append of all entries that the member has due has begun: they stand there besides, and it may have logged some of
-- them since.
pub record HasBegunAll (base : OnLog) (r : Replica) (c : OnLog) : Type 0 where
  pub before : OnLog
  pub logged : HasJustLogged base r before
  pub is : c ≡ with_entries (entries_due r) before

-- a member that stands so, as it ended or was stopped, may leave this on a log that was open with `base`
abbrev pub LeavesSo : OnLog → Running → OnLog → Type 0
LeavesSo base r c = HasJustLogged base r.replica c ⊎ HasBegunNext base r c ⊎ HasBegunAll base r.replica c

-- The age of a script that is number nth of a run began with what was chosen of the logs that were there, on which
-- this was found, and its program has come so far by some deeds.
pub record IsAgeOfChoice (script : Script) (start : Start) (nth : ℕ) (found : List (Option OnLog)) (p : Program)
    : Type 0 where
  pub chosen : IsChosenOf (first_group_of script).opening found start
  pub begun : Program
  pub begins : IsBegun script start nth begun
  pub ran : IsRanFrom begun p

-- behind the age this is on the log of member m: what the member may leave, behind what its log was open with
pub record IsLeftAt (start : Start) (found : List (Option OnLog)) (p : Program) (m : ℕ) (c : OnLog) : Type 0 where
  pub member : Running
  pub there : present_at p.members m ≡ Some member
  pub first : OnLog
  pub on : content_at found m ≡ Some first
  pub base : OnLog
  pub opened : IsOpenFor start (voted_for start first) base
  pub leaves : LeavesSo base member c

-- behind the age the same logs are there as before it, and on each of them is what its member may leave
pub record AreLeftFrom (start : Start) (found : List (Option OnLog)) (p : Program) (after : List (Option OnLog))
    : Type 0 where
  pub all : length after ≡ length found
  pub same : (m : ℕ) → is_some (content_at after m) ≡ is_some (content_at found m)
  pub each : (m : ℕ) (c : OnLog) → content_at after m ≡ Some c → IsLeftAt start found p m c
