-- Why an age of a run was not opened.
use Rattle.std.specs.Prelude.{◌≡◌, ◌≢◌, ◌⊎◌, ⊤, ℕ, ◌<◌, ◌≤◌, false, List, [], ◌∷◌, Option, Some, IfSome}
use Rattle.dr_disk.specs.{Calls.Sync, Disk.{Told, added, content_of}, Images.{IsLeft, ReadsAnImage}}
use Rattle.dr_entry.specs.declared.entry.Entry.{Entry}
use Rattle.dr_history.specs.Members.{has}
use Rattle.dr_io.specs.Faults.{Rose}
use Rattle.dr_log_bytes.specs.{Content.OnLog, Grammar.{IsDamaged, StandFor}}
use Rattle.dr_opening.specs.{Contents.{IsOpenFor, IsRisingStep, IsVoteStep, voted_for}, Lists.all_as_lists}
use Rattle.dr_opening.specs.Tries.{IsChosenOf, content_at}
use Rattle.dr_quorum.specs.Handing.{handed_by}
use Rattle.dr_restart.specs.{Groups.first_group_of, Refusing.{IsRefusedFor, Refusal}, declared.start.Start.Start}
use Rattle.dr_script.specs.declared.script.Script.{Script}
use Rattle.dr_words.specs.Masks.{without}
use Rattle.dr_yard.specs.Yards.{YardState}
use Rattle.dr_ages.specs.{Found.AreFound, Opened.AreChosenOf, Passing.{AreKeptSince, AreUntouched, PassOn}}
use Rattle.dr_ages.specs.declared.{part.Part.Part, stop.Stop.Stop}
use Rattle.dr_ages.specs.declared.stop.Stop.TheVariants.{OutOfMemory, DiskFault, LogFull, Damaged, Disagree, Foreign, NoQuorum, AgesUsedUp}

-- what is found on the logs that are not missing has P
abbrev pub AreFoundSo : Script → ℕ → YardState → (List (Option OnLog) → Type 0) → Type 0
AreFoundSo script missing before P =
    (contents : List (Option OnLog)) × AreFound script.members missing before contents × P contents

-- logs with this on them make no start, for this
abbrev pub AreRefusedFor : Script → Refusal → List (Option OnLog) → Type 0
AreRefusedFor script why contents =
    IsRefusedFor (first_group_of script).opening (handed_by (all_as_lists contents)) why

-- ---- a log that was refused what an age needs

-- whatever a crash leaves of the logs of the members below this one has the age vote, within the limit of a log,
-- and that of each one above it what was found
pub record HaveVotesBelow (start : Start) (contents : List (Option OnLog)) (after : YardState) (member : ℕ)
    : Type 0 where
  pub below : (m : ℕ) (c : OnLog) → m < member → content_at contents m ≡ Some c
      → IsLeft (after.told m) (λ image. StandFor image (voted_for start c))
  pub within : (m : ℕ) (c : OnLog) → m < member → content_at contents m ≡ Some c
      → (voted_for start c).length ≤ 2147483648
  pub above : (m : ℕ) (c : OnLog) → member < m → content_at contents m ≡ Some c
      → IsLeft (after.told m) (λ image. StandFor image c)

-- whatever a crash leaves of the logs of the members below this one has all that the age begins with, and that of
-- each one above it has the age vote, within the limit of a log
pub record AreOpenBelow (start : Start) (contents : List (Option OnLog)) (after : YardState) (member : ℕ)
    : Type 0 where
  pub below : (m : ℕ) (c : OnLog) → m < member → content_at contents m ≡ Some c
      → (d : OnLog) × IsOpenFor start (voted_for start c) d × (d.length ≤ 2147483648)
      × IsLeft (after.told m) (λ image. StandFor image d)
  pub above : (m : ℕ) (c : OnLog) → member < m → content_at contents m ≡ Some c
      → IsLeft (after.told m) (λ image. StandFor image (voted_for start c))
  pub within : (m : ℕ) (c : OnLog) → content_at contents m ≡ Some c → (voted_for start c).length ≤ 2147483648

-- An append of the opening was refused to the log of a member, when `now` stood on it, and it was to come to
-- `next`: in the first phase, or in the second.
pub record IsStuckIn (script : Script) (part : Part) (before after : YardState) (member : ℕ)
    (At : OnLog → OnLog → Type 0) : Type 0 where
  pub below : member < script.members
  pub contents : List (Option OnLog)
  pub found : AreFound script.members part.missing before contents
  pub start : Start
  pub chosen : IsChosenOf (first_group_of script).opening contents start
  pub members : start.members ≡ without start.present part.late
  pub content : OnLog
  pub there : content_at contents member ≡ Some content
  pub now : OnLog
  pub next : OnLog
  pub phase : (IsVoteStep start content now next × HaveVotesBelow start contents after member)
      ⊎ (IsRisingStep start (voted_for start content) now next × AreOpenBelow start contents after member)
  pub at : At now next

-- when the disk of a member failed: as it was to be mounted, when the logs of those below it had been, and
-- the disks of those above it were as before; or as its log was to be brought to where the age begins. The disks
-- that were mounted by then are kept since: those below it, or all.
pub data FailedAt (script : Script) (part : Part) (before after : YardState) (member : ℕ) : Type 0 where
  in_mount : (contents : List (Option OnLog)) → AreFound member part.missing before contents
      → ((m : ℕ) → member < m → after.told m ≡ before.told m)
      → AreKeptSince script.members part.missing member [] before after
      → FailedAt script part before after member
  in_opening : (stuck : IsStuckIn script part before after member (λ now next.
      IsLeft (after.told member) (λ image. StandFor image now ⊎ StandFor image next)))
      → AreKeptSince script.members part.missing script.members (stuck.start.entries ∷ []) before after
      → FailedAt script part before after member

-- the disk of a member that is not missing failed
pub record HasFailed (script : Script) (part : Part) (before after : YardState) (member : ℕ) : Type 0 where
  pub below : member < script.members
  pub there : has part.missing member ≡ false
  pub rose : Rose (before.faults member) (after.faults member)
  pub at : FailedAt script part before after member

-- The log of a member, of this length, would have been longer than a log may be with what was to be appended to
-- it. It outlives a crash.
abbrev pub IsTooFull : Script → Part → YardState → YardState → ℕ → ℕ → Type 0
IsTooFull script part before after member len = IsStuckIn script part before after member (λ now next.
    (len ≡ now.length) × (2147483648 < next.length)
    × IsLeft (after.told member) (λ image. StandFor image now))

-- what a read gives of a disk that tells this is what a crash may leave of it, and damaged at this place
pub record ReadsDamaged (at : ℕ) (t : Told) : Type 0 where
  pub image : ReadsAnImage t
  pub damaged : IsDamaged (content_of t) at

-- the log of one of the first n members is damaged, and the logs of those below it can be read
pub record HasDamaged (n missing : ℕ) (before after : YardState) (member at : ℕ) : Type 0 where
  pub below : member < n
  pub there : has missing member ≡ false
  pub damaged : IfSome (before.told member) (ReadsDamaged at)
  -- its bytes were synced, and are as they were
  pub kept : after.told member ≡ added Sync (before.told member)
  pub contents : List (Option OnLog)
  pub found : AreFound member missing before contents

-- ---- where an opening stops

-- no call of a disk failed
abbrev pub HaveNotFailed : YardState → YardState → Type 0
HaveNotFailed before after = (m : ℕ) → after.faults m ≡ before.faults m

-- the logs of the members below k were mounted, but for the missing: whatever a crash leaves of them is as it
-- was found; and the disks above that of k are as before
pub record AreMountedBelow (k missing : ℕ) (before after : YardState) : Type 0 where
  pub contents : List (Option OnLog)
  pub found : AreFound k missing before contents
  pub safe : (m : ℕ) (c : OnLog) → content_at contents m ≡ Some c
      → IsLeft (after.told m) (λ image. StandFor image c)
  pub above : (m : ℕ) → k < m → after.told m ≡ before.told m

-- Why the next age was not opened, over disks that were so before and are so now. How far it had come when
-- memory was wanting goes by the mode of the run, and is said apart.
abbrev pub HasStopped : Script → Part → YardState → YardState → Stop → Type 0
HasStopped script part before after OutOfMemory = ⊤
HasStopped script part before after (DiskFault member) = HasFailed script part before after member
HasStopped script part before after (LogFull member len) = IsTooFull script part before after member len
HasStopped script part before after (Damaged member at) =
    HasDamaged script.members part.missing before after member at
HasStopped script part before after (Disagree a b place) =
    AreFoundSo script part.missing before (AreRefusedFor script (Refusal.Disagree a b place))
HasStopped script part before after (Foreign member place) =
    AreFoundSo script part.missing before (AreRefusedFor script (Refusal.Foreign member place))
HasStopped script part before after (NoQuorum view have need) =
    AreFoundSo script part.missing before (AreRefusedFor script (Refusal.NoQuorum view have need))
HasStopped script part before after AgesUsedUp =
    AreFoundSo script part.missing before (AreRefusedFor script Refusal.AgesUsedUp)

-- which disks' calls failed in an opening that stopped so: that of the member which the stop names, and no
-- other. Where memory was wanting that is said apart too.
abbrev pub NamesFaults : Stop → YardState → YardState → Type 0
NamesFaults OutOfMemory before after = ⊤
NamesFaults (DiskFault member) before after = (m : ℕ) → m ≢ member → after.faults m ≡ before.faults m
NamesFaults stop before after = HaveNotFailed before after

-- a stop at logs that are not those of one group, or of which too many are missing
abbrev pub IsBadLogs : Stop → Type 0
IsBadLogs (Damaged member at) = ⊤
IsBadLogs (Disagree a b place) = ⊤
IsBadLogs (Foreign member place) = ⊤
IsBadLogs (NoQuorum view have need) = ⊤
IsBadLogs stop = ⊥

-- a stop at logs, whichever it is
abbrev pub IsOfLogs : Stop → Type 0
IsOfLogs (Damaged member at) = ⊤
IsOfLogs (Disagree a b place) = ⊤
IsOfLogs (Foreign member place) = ⊤
IsOfLogs (NoQuorum view have need) = ⊤
IsOfLogs AgesUsedUp = ⊤
IsOfLogs stop = ⊥

-- the disks of so many of n members were mounted in an opening that stopped so, but for the missing: those below
-- one that was damaged, or that failed as it was to be mounted, or for which there was no memory; and all
-- where their logs were compared
abbrev pub HasMounted : ℕ → ℕ → YardState → YardState → ℕ → Stop → Type 0
HasMounted n missing before after mounted OutOfMemory =
    ((mounted < n) × AreMountedBelow mounted missing before after) ⊎ (mounted ≡ n)
HasMounted n missing before after mounted (DiskFault member) = (mounted ≡ member) ⊎ (mounted ≡ n)
HasMounted n missing before after mounted (Damaged member at) = mounted ≡ member
HasMounted n missing before after mounted stop = mounted ≡ n

-- a stop that comes once all disks are mounted
abbrev pub IsBehindMounts : Stop → Type 0
IsBehindMounts (Damaged member at) = ⊥
IsBehindMounts stop = ⊤

-- the entries of the start that was chosen, of what was found, in an opening that stopped; or there was none
abbrev pub AreChosenIn : Script → ℕ → YardState → List (List Entry) → Type 0
AreChosenIn script missing before starts =
    (starts ≡ []) ⊎ AreFoundSo script missing before (AreChosenOf script starts)

-- an opening that stopped so has lost nothing but entries that the start lacks which was chosen in it: the disks
-- that were mounted are kept since, and those of the missing are as they were
pub record HasKept (script : Script) (missing : ℕ) (before after : YardState) (stop : Stop) : Type 0 where
  pub mounted : ℕ
  pub starts : List (List Entry)
  pub chosen : AreChosenIn script missing before starts
  pub since : AreKeptSince script.members missing mounted starts before after
  pub passes : PassOn starts before after
  pub untouched : AreUntouched missing before after
  pub count : HasMounted script.members missing before after mounted stop

-- a stop for want of memory, or by a disk
abbrev pub IsOutside : Stop → Type 0
IsOutside OutOfMemory = ⊤
IsOutside (DiskFault member) = ⊤
IsOutside stop = ⊥
