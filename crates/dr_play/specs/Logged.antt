-- The logs of an age: how they are before it, and what has come of each by how its member ended.
use Rattle.std.specs.Prelude.{◌≡◌, ⊤, ℕ, ◌+◌, ◌*◌, ◌-◌, ◌<◌, ◌≤◌, false, All, List, length, Option, None, Some}
use Rattle.dr_entry.specs.declared.end.{End.End, MemberEnd.MemberEnd}
use Rattle.dr_entry.specs.declared.limits.TheConstants.{MAX_MEMBERS, MAX_MESSAGES}
use Rattle.dr_entry.specs.declared.end.End.TheVariants as ends
use Rattle.dr_disk.specs.Disk.{Told}
use Rattle.dr_history.specs.Order.{first_entries}
use Rattle.dr_log.specs.State.{LogState}
use Rattle.dr_machine.specs.Group.{Group, IsPresent, banks, roster}
use Rattle.dr_program.specs.{Presence.present_at, Program.end_of, Running.Running, declared.outcome.LogWhy.LogWhy}
use Rattle.dr_program.specs.declared.outcome.LogWhy.TheVariants as whys
use Rattle.dr_served.specs.Served.{HasCome}

-- a log holds what every history of the age begins with, and no append to it has failed
pub record IsOpened {D : Type 0} (g : Group) (log : LogState D) : Type 0 where
  pub entries : log.content.entries ≡ first_entries g.opening
  pub whole : log.failed ≡ false

-- the logs of the members of the group that are there, by number
pub record AreOpened {D : Type 0} (g : Group) (logs : List (Option (LogState D))) : Type 0 where
  pub all : length logs ≡ roster g
  pub each : (m : ℕ) (log : LogState D) → present_at logs m ≡ Some log → IsPresent g m × IsOpened g log
  pub there : (m : ℕ) → m < roster g → IsPresent g m → (log : LogState D) × (present_at logs m ≡ Some log)

-- why a member's last append failed, by how it ended
abbrev pub why_ended : End → Option LogWhy
why_ended ends.DiskFault = Some whys.DiskFault
why_ended (ends.LogFull len) = Some (whys.LogFull len)
why_ended end = None

-- what has come of each log since `bases`, by how the member of its number stands at its end
abbrev pub HaveCome : {D : Type 0} → (D → Option Told) → (D → ℕ) → List (Option (LogState D))
    → List (Option (LogState D)) → List (Option Running) → Type 0
HaveCome {D} told faults bases logs members = (m : ℕ) (base log : LogState D) (r : Running)
    → present_at bases m ≡ Some base → present_at logs m ≡ Some log → present_at members m ≡ Some r
    → HasCome told faults base log r.replica (why_ended (end_of r).end)

-- no member was ended by its log, or by a full one
abbrev pub NoneStopped : List MemberEnd → Type 0
NoneStopped members = All (λ (e : MemberEnd). why_ended e.end ≡ None) members

abbrev pub IsNotFull : End → Type 0
IsNotFull (ends.LogFull len) = ⊥
IsNotFull end = ⊤

abbrev pub NoneFull : List MemberEnd → Type 0
NoneFull members = All (λ (e : MemberEnd). IsNotFull e.end) members

-- The limit of a log is enough for what stands on it and for all that an age may bring: 72 bytes for each
-- entry that it has not yet, of those of the start, a View for each bank, and 4,096 messages of each of 16 members,
-- and 73 for each vote more, of which there may be 16 in each view.
pub record IsAmple {D : Type 0} (g : Group) (log : LogState D) : Type 0 where
  pub limit : log.content.length
      + 72 * (length g.opening.start + banks g + MAX_MESSAGES * MAX_MEMBERS - length log.content.entries)
      + 73 * (banks g * MAX_MEMBERS) ≤ log.limit

-- so it is with each of these logs
abbrev pub AreAmple : {D : Type 0} → Group → List (Option (LogState D)) → Type 0
AreAmple {D} g logs = (m : ℕ) (log : LogState D) → present_at logs m ≡ Some log → IsAmple g log

-- what is on a log is what was on it before
abbrev pub IsAsBefore : {D : Type 0} → LogState D → LogState D → Type 0
IsAsBefore old new = new.content ≡ old.content

abbrev pub AreAsBefore : {D : Type 0} → List (Option (LogState D)) → List (Option (LogState D)) → Type 0
AreAsBefore {D} olds news = (m : ℕ) (old new : LogState D) → present_at olds m ≡ Some old
    → present_at news m ≡ Some new → IsAsBefore old new

-- the disk of each log tells what it told, and has counted no further fault
abbrev pub AreCalm : {D : Type 0} → (D → Option Told) → (D → ℕ) → List (Option (LogState D))
    → List (Option (LogState D)) → Type 0
AreCalm {D} tells faults olds news = (m : ℕ) (old new : LogState D) → present_at olds m ≡ Some old
    → present_at news m ≡ Some new → (tells new.disk ≡ tells old.disk) × (faults new.disk ≡ faults old.disk)
