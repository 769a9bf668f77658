-- What the doors of an age leave on the logs of their members.
use Rattle.std.specs.Prelude.{◌≡◌, ◌⊎◌, ◌+◌, ◌<◌, ℕ, true, Contains, Some}
use Rattle.dr_calls.specs.Wire.{Voted, Wire, moment}
use Rattle.dr_door.specs.{Apart.{Apart, HaveBegunApart, IsRanApart}, Lone.Lone}
use Rattle.dr_entry.specs.declared.record.{Record.Record, Vote.Vote}
use Rattle.dr_history.specs.Members.{has}
use Rattle.dr_kept.specs.Leaving.{HasJustLogged}
use Rattle.dr_log_bytes.specs.Content.{OnLog, with_record}
use Rattle.dr_opening.specs.Lists.{as_lists}
use Rattle.dr_program.specs.{Presence.present_at, Running.next_deed}
use Rattle.dr_program.specs.declared.deed.Deed.TheVariants as deeds
use Rattle.dr_restart.specs.declared.lists.LogLists.{LogLists}
use Rattle.dr_script.specs.declared.script.Script.{Script}

-- the door has stopped inside an append: the record that it was to append stands there besides
pub record HasStoppedInside (base : OnLog) (door : Lone) (found : OnLog) : Type 0 where
  pub next : Record
  pub due : next_deed door.member ≡ deeds.Append next
  pub before : OnLog
  pub logged : HasJustLogged base door.member.replica before
  pub is : found ≡ with_record next before

-- what stands on a log that was open with `base`, wherever the door has stopped
abbrev pub IsLeftByDoor : OnLog → Lone → OnLog → Type 0
IsLeftByDoor base door found = HasJustLogged base door.member.replica found ⊎ HasStoppedInside base door found

-- this is on the log of member m, which was open with votes of earlier ages alone
pub record IsLogOfDoor (age : ℕ) (a : Apart) (m : ℕ) (log : LogLists) : Type 0 where
  pub door : Lone
  pub there : present_at a.doors m ≡ Some door
  pub base : OnLog
  pub earlier : (x : Vote) → Contains base.votes x → x.age < age
  pub found : OnLog
  pub left : IsLeftByDoor base door found
  pub is : log ≡ as_lists found

-- these doors have begun as the age of a call opens, and have left what stands on the logs of its members behind their
-- votes
pub record IsAgeOfDoors (script : Script) (w : Wire) (v : Voted) (a : Apart) : Type 0 where
  pub nth : ℕ
  pub begun : Apart
  pub begins : HaveBegunApart script v.start nth begun
  pub ran : IsRanApart begun a
  pub logs : (m : ℕ) → has v.call.set m ≡ true → IsLogOfDoor v.start.age a m (moment w (v.call.age + 1) m)

-- so it is with each age in which somebody has begun
abbrev pub AreAgesOfDoors : Script → Wire → Type 0
AreAgesOfDoors script w = (v : Voted) → Contains w.votes v → Contains w.ages v.call
    → (a : Apart) × IsAgeOfDoors script w v a
