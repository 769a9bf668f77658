-- The logs of members that run: what comes of each while its member takes its deeds.
use Rattle.std.specs.Prelude.{⊤, ◌≡◌, ◌≢◌, ◌⊎◌, ℕ, ◌+◌, ◌*◌, ◌-◌, ◌<◌, ◌≤◌, max, true, false, List, ◌++◌, length, drop, take, slice_get, slice_index_or, Option, None, Some, is_some}
use Rattle.dr_entry.specs.{Spelling.{IsValid, IsValidVote}, declared.entry.Entry.{Entry, TheVariants.View}}
use Rattle.dr_entry.specs.declared.record.{Record.Record, Vote.Vote}
use Rattle.dr_entry.specs.declared.record.Record.TheVariants as records
use Rattle.dr_io.specs.Faults.{Rose}
use Rattle.dr_disk.specs.{Disk.Told, Images.{Goes, IsLeft, Lasts}}
use Rattle.dr_log.specs.{Standing.{LosesNone, entries_length, votes_length, with_entries}, State.LogState}
use Rattle.dr_log_bytes.specs.{Content.{OnLog, block_length, with_record}, Grammar.StandFor}
use Rattle.dr_program.specs.declared.deed.Deed.TheVariants as deeds
use Rattle.dr_program.specs.{Presence.present_at, Program.Program, Replica.{Replica, may_vote, value_due, vote_of}}
use Rattle.dr_program.specs.{Running.{Running, append_or_end, next_deed, next_step}, declared.outcome.LogWhy.LogWhy}
use Rattle.dr_program.specs.declared.outcome.LogWhy.TheVariants as whys

-- what is on the log is safe
abbrev pub IsSafe : {D : Type 0} → (D → Option Told) → LogState D → Type 0
IsSafe told log = IsLeft (told log.disk) (λ image. StandFor image log.content)

-- what no crash would have lost at one moment since `base` none would have lost later on
abbrev pub LosesNothing : {D : Type 0} → (D → Option Told) → LogState D → LogState D → Type 0
LosesNothing told base log = (first : OnLog) → Lasts (told base.disk) (told log.disk) (LosesNone first)

-- the record that comes behind so many entries of a history
abbrev pub next_record : List Entry → ℕ → Record
next_record history logged = records.Entry (slice_index_or history logged (View 0 0 0))

-- the vote is the one that the member has due
pub record IsDueVote (r : Replica) (vote : Vote) : Type 0 where
  -- it may vote for the value that is due, and this is its vote for it
  pub may : may_vote r (value_due r) ≡ true
  pub is : vote ≡ vote_of r (value_due r)
  -- which is a valid record; and it has cast fewer than one by the ballot of each member in each view
  pub valid : IsValidVote vote
  pub few : length r.votes < r.banks * r.roster

-- the record is the one that the member has due: the entry of its history behind those that it has logged, or
-- its vote
abbrev pub IsRecordDue : Replica → Record → Type 0
IsRecordDue r (records.Entry entry) = slice_get r.history r.logged ≡ Some entry
IsRecordDue r (records.Vote vote) = IsDueVote r vote
IsRecordDue r (records.AgeVote vote) = ⊥
IsRecordDue r (records.Cut keep) = ⊥
IsRecordDue r records.Upgrade = ⊥

-- all entries that the member has due: those of its history that it has not logged
abbrev pub entries_due : Replica → List Entry
entries_due r = drop r.logged r.history

-- what stands on a log after an append of what the member has due: of one record, or of all entries together
abbrev pub HasDueBehind : Replica → OnLog → OnLog → Type 0
HasDueBehind r before after =
    ((next : Record) × (IsRecordDue r next) × (after ≡ with_record next before))
    ⊎ (after ≡ with_entries (entries_due r) before)

-- a disk failed since `base`: whatever a crash leaves has what is on the log, or what the append was to make of it
pub record BrokeOff {D : Type 0} (told : D → Option Told) (faults : D → ℕ) (base log : LogState D)
    (after : OnLog) : Type 0 where
  pub failed : log.failed ≡ true
  pub rose : Rose (faults base.disk) (faults log.disk)
  pub left : IsLeft (told log.disk) (λ image. StandFor image log.content ⊎ StandFor image after)

-- a log of this length has no room for the next record, and is safe
pub record IsFull {D : Type 0} (told : D → Option Told) (log : LogState D) (len : ℕ)
    (next : Record) : Type 0 where
  pub whole : log.failed ≡ false
  pub safe : IsSafe told log
  pub long : len ≡ log.content.length
  pub over : log.limit < len + block_length next

-- how the last append of a member to its log has gone: well, or it failed for this reason, at what the member has
-- due
abbrev pub WentSo : {D : Type 0} → (D → Option Told) → (D → ℕ) → LogState D → LogState D
    → Replica → Option LogWhy → Type 0
WentSo told faults base log r None = (log.failed ≡ false) × IsSafe told log
WentSo told faults base log r (Some whys.DiskFault) =
    (after : OnLog) × (HasDueBehind r log.content after) × BrokeOff told faults base log after
WentSo told faults base log r (Some (whys.LogFull len)) =
    (next : Record) × (IsRecordDue r next) × IsFull told log len next

-- what has come of a log since `base`, with which its member began: it has what the member has logged, its
-- votes too, and the last append failed for this reason, if one did
pub record HasCome {D : Type 0} (told : D → Option Told) (faults : D → ℕ) (base log : LogState D)
    (r : Replica) (why : Option LogWhy) : Type 0 where
  -- it has the first entries of the history, behind those that it had, and the votes behind those that it had
  pub entries : log.content.entries ≡ take r.logged r.history
  pub more : (es : List Entry) × (log.content.entries ≡ base.content.entries ++ es)
  pub voted : log.content.votes ≡ base.content.votes ++ r.votes
  -- it has no other record more
  pub age_votes : log.content.age_votes ≡ base.content.age_votes
  pub newer : log.content.newer ≡ base.content.newer
  -- it is longer by these
  pub long : log.content.length ≡ base.content.length + (entries_length more.0 + votes_length r.votes)
  -- it keeps its limit
  pub limit : log.limit ≡ base.limit
  pub within : log.content.length ≤ max log.limit base.content.length
  -- how its last append went
  pub last : WentSo told faults base log r why
  -- at no moment a crash would have lost what it had, nor what it could not have lost at an earlier one
  pub moments : Goes (told base.disk) (told log.disk) (λ s. LosesNone base.content)
  pub lasting : LosesNothing told base log
  -- its disk has counted no fault, unless one ended the last append
  pub calm : why ≢ Some whys.DiskFault → faults log.disk ≡ faults base.disk
  pub later : faults base.disk ≤ faults log.disk

-- where an append of a running member has failed, what it does next is to end by that
abbrev pub EndsNext : Running → Type 0
EndsNext r = (why : LogWhy) → r.failed ≡ Some why → r.replica.end ≡ None
    → next_step r ≡ append_or_end (Some why)

-- so it is with the log of a running member
pub record HasServed {D : Type 0} (told : D → Option Told) (faults : D → ℕ) (base log : LogState D)
    (r : Running) : Type 0 where
  pub come : HasCome told faults base log r.replica r.failed
  pub ends : EndsNext r

-- the log is ready for all that its member may still append, unless an append has failed
pub record IsReady {D : Type 0} (log : LogState D) (r : Running) : Type 0 where
  pub whole : r.failed ≡ None → log.failed ≡ false
  pub spare : r.failed ≡ None → r.replica.room ≤ r.replica.logged + log.spare_entries
  pub votes : r.failed ≡ None → r.replica.banks * r.replica.roster
      ≤ length r.replica.votes + log.spare_votes

-- a letter that a member finds goes on from the member's history
abbrev pub LetterGoesOn : List Entry → Option (List Entry) → Type 0
LetterGoesOn history None = ⊤
LetterGoesOn history (Some letter) = (rest : List Entry) × (letter ≡ history ++ rest)

-- what the member appends next is a valid record
abbrev pub AppendsWell : Running → Type 0
AppendsWell r = (due : Record) → next_deed r ≡ deeds.Append due → IsValid due

-- what is so of member m of the program
abbrev pub AtMember : Program → ℕ → (Running → Type 0) → Type 0
AtMember p m P = (r : Running) → present_at p.members m ≡ Some r → P r

-- each member has a log at its number, which is ready for it
pub record AreReady {D : Type 0} (logs : List (Option (LogState D))) (members : List (Option Running))
    : Type 0 where
  pub all : length logs ≡ length members
  pub there : (m : ℕ) (r : Running) → present_at members m ≡ Some r
      → (log : LogState D) × (present_at logs m ≡ Some log)
  pub each : (m : ℕ) (log : LogState D) (r : Running) → present_at logs m ≡ Some log
      → present_at members m ≡ Some r → IsReady log r

-- there is a log at each place at which there was one, and no other
pub record HaveSamePlaces {D : Type 0} (olds news : List (Option (LogState D))) : Type 0 where
  pub all : length news ≡ length olds
  pub each : (m : ℕ) → is_some (present_at news m) ≡ is_some (present_at olds m)

-- each log has served the member of its number, since these bases
abbrev pub HaveServed : {D : Type 0} → (D → Option Told) → (D → ℕ) → List (Option (LogState D))
    → List (Option (LogState D)) → List (Option Running) → Type 0
HaveServed {D} told faults bases logs members = (m : ℕ) (base log : LogState D) (r : Running)
    → present_at bases m ≡ Some base → present_at logs m ≡ Some log → present_at members m ≡ Some r
    → HasServed told faults base log r

-- a log got room for all that its member may still append, and is else as it was: what it has is safe where
-- no append has failed
pub record IsRoomy {D : Type 0} (told : D → Option Told) (faults : D → ℕ) (r : Running)
    (old new : LogState D) : Type 0 where
  pub spare : r.replica.room - r.replica.logged ≤ new.spare_entries
  pub votes : r.replica.banks * r.replica.roster - length r.replica.votes ≤ new.spare_votes
  pub is : new ≡ record old {
    disk = new.disk;
    spare_entries = new.spare_entries;
    spare_votes = new.spare_votes;
    spare_others = new.spare_others;
  }
  pub tells : told new.disk ≡ told old.disk
  pub calm : faults new.disk ≡ faults old.disk
  pub safe : old.failed ≡ false → IsSafe told new

abbrev pub AreRoomy : {D : Type 0} → (D → Option Told) → (D → ℕ) → List (Option Running)
    → List (Option (LogState D)) → List (Option (LogState D)) → Type 0
AreRoomy {D} told faults members olds news = (m : ℕ) (r : Running) (old new : LogState D)
    → present_at members m ≡ Some r → present_at olds m ≡ Some old → present_at news m ≡ Some new
    → IsRoomy told faults r old new
