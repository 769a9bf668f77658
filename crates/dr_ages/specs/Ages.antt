-- The ages of a run.
use Rattle.std.specs.Prelude.{◌≡◌, ◌≢◌, ℕ, ◌+◌, ◌-◌, ◌*◌, ◌^◌, ◌<◌, ◌≤◌, ◌↔◌, true, false, List, [], ◌∷◌, length, map, slice_get, take, Option, Some}
use Rattle.dr_complete.specs.Time.{HasTime}
use Rattle.dr_entry.specs.declared.end.{AgeEnd.AgeEnd, End.TheVariants.{Absent, DiskFault, LogFull}}
use Rattle.dr_entry.specs.declared.{end.MemberEnd.MemberEnd, entry.Entry.Entry}
use Rattle.dr_history.specs.{History.IsPrefixOf, Members.has, Order.first_entries, Soundness.IsNobodyLate}
use Rattle.dr_history.specs.declared.opening.Opening.{Opening}
use Rattle.dr_io.specs.Faults.{Rose}
use Rattle.dr_log_bytes.specs.Content.{OnLog}
use Rattle.dr_served.specs.Served.{AtMember}
use Rattle.dr_machine.specs.Group.{Group, banks, roster}
use Rattle.dr_opening.specs.{Contents.{IsOpenFor, voted_for}, Tries.{IsChosenOf, content_at}}
use Rattle.dr_program.specs.{Program.Program, Replica.Replica}
use Rattle.dr_program_laws.specs.Ended.{AreComplete}
use Rattle.dr_restart.specs.{Groups.{first_group_of, group_of}, declared.start.Start.Start}
use Rattle.dr_script.specs.declared.script.Script.{Script}
use Rattle.dr_play.specs.{Age.IsAge, Logged.{NoneFull, NoneStopped}, Run.IsRun}
use Rattle.dr_sim.specs.Simulated.{IsSimulated}
use Rattle.dr_words.specs.Masks.{without}
use Rattle.dr_yard.specs.Yards.{YardState}
use Rattle.dr_ages.specs.{Found.{AreFew, AreFound}, Left.{HasLeft, IsFullAt, with_logged}}
use Rattle.dr_ages.specs.{Passing.{AreKeptSince, AreUntouched, PassOn}, declared.mode.Mode.Mode}
use Rattle.dr_ages.specs.declared.{mode.Mode.TheVariants.{Sim, Run}, part.Part.Part}

-- who takes part in the ages of a run: the members of the roster, but for the missing
abbrev pub taking_part : Script → ℕ → ℕ
taking_part script missing = without (2 ^ script.members - 1) missing

-- the mask names none of so many members
abbrev pub NamesNobody : ℕ → ℕ → Type 0
NamesNobody n mask = (m : ℕ) → m < n → has mask m ≡ false

-- all take part but the missing, and nobody is late
abbrev pub all_but : ℕ → Part
all_but missing = record { missing = missing; late = 0 }

-- all take part, and these are late
abbrev pub all_with : ℕ → Part
all_with late = record { missing = 0; late = late }

-- somebody who takes part isn't late, where anybody takes part
abbrev pub HaveSomebodyPrompt : Script → Part → Type 0
HaveSomebodyPrompt script part = (m : ℕ) → m < script.members → has part.missing m ≡ false
    → (k : ℕ) × (k < script.members) × (has part.missing k ≡ false) × (has part.late k ≡ false)

-- the start that the end of an age tells: in its first view is who takes part and isn't late
abbrev pub start_of : Script → Part → AgeEnd → Start
start_of script part age = record {
  age = age.age;
  members = without (taking_part script part.missing) part.late;
  present = taking_part script part.missing;
  entries = age.start;
}

-- what the members of the age have begun with
abbrev pub opening_of : Script → Part → AgeEnd → Opening
opening_of script part age = (group_of script (start_of script part age)).opening

-- how an age was played: a simulated one runs by the script's schedule, and one in threads by some list of deeds
abbrev pub IsPlayed : Mode → Script → Start → ℕ → AgeEnd → Program → Type 0
IsPlayed Sim = IsSimulated
IsPlayed Run = IsRun

-- a member of a group: it has as many banks for its views as the group, and has cast no more votes than one by the
-- ballot of each member of the roster in each of them
pub record IsMemberOf (g : Group) (r : Replica) : Type 0 where
  pub few : length r.votes ≤ banks g * roster g
  pub roster : r.roster ≡ roster g
  pub banks : r.banks ≡ banks g

-- this is age number nth of a run, from 0, from this start, over disks that were so before it and are so behind it, but
-- for those of the missing
pub record IsAgeFrom (start : Start) (script : Script) (part : Part) (mode : Mode) (nth : ℕ) (before after : YardState)
    (age : AgeEnd) : Type 0 where
  -- it starts with what is chosen of what is found on the disks
  pub contents : List (Option OnLog)
  pub found : AreFound script.members part.missing before contents
  pub starts : IsChosenOf (first_group_of script).opening contents start
  -- each log gets the age vote, is cut back and brought up to the start
  pub begun : ℕ → OnLog
  pub begins : (m : ℕ) (c : OnLog) → content_at contents m ≡ Some c
      → IsOpenFor start (voted_for start c) (begun m)
  -- it is the run of the script's program from there on, and its members agree, and end as they should
  pub played : IsAge (IsPlayed mode) script start nth age
  pub complete : NamesNobody script.members part.missing → IsNobodyLate (group_of script start).opening → mode ≡ Sim
      → HasTime script → NoneStopped age.members → AreComplete (group_of script start).opening age.members
  -- exactly the missing are absent
  pub absent : (m : ℕ) (e : MemberEnd) → slice_get age.members m ≡ Some e
      → (e.end ≡ Absent) ↔ (has part.missing m ≡ true)
  -- its members have cast no more votes than they may
  pub few : (m : ℕ) → AtMember played.over m (λ r. IsMemberOf (group_of script start) r.replica)
  -- each log begins with what every history of the age does
  pub opened : (m : ℕ) (e : MemberEnd) → slice_get age.members m ≡ Some e → has part.missing m ≡ false
      → IsPrefixOf (first_entries (group_of script start).opening) (take e.logged e.history)
  -- whatever a crash leaves of each disk is what its member may leave, behind what stood there as the age began
  pub left : (m : ℕ) → AtMember played.over m (λ r. HasLeft (after.told m) r.replica (begun m))
  -- no log is longer than a log may be
  pub within : (m : ℕ) → AtMember played.over m (λ r. (with_logged (begun m) r.replica).length ≤ 2147483648)
  -- who ends by its disk has one that failed, no call of another disk did, and who ends by a full log has one
  pub failed : (m : ℕ) (e : MemberEnd) → slice_get age.members m ≡ Some e → e.end ≡ DiskFault
      → Rose (before.faults m) (after.faults m)
  pub calm : (m : ℕ) → ((e : MemberEnd) → slice_get age.members m ≡ Some e → e.end ≢ DiskFault)
      → after.faults m ≡ before.faults m
  pub full : (m : ℕ) → AtMember played.over m
      (λ r. (len : ℕ) → r.replica.end ≡ Some (LogFull len) → IsFullAt r.replica (begun m) len)
  -- logs on which there is little but entries have room for all that an age may bring
  pub ample : ((m : ℕ) (c : OnLog) → content_at contents m ≡ Some c → AreFew c) → NoneFull age.members
  -- no disk has lost anything, nor would a crash have lost what was on one as the age mounted it, but for entries
  -- that the start lacks; and those of the missing are as they were
  pub passes : PassOn (start.entries ∷ []) before after
  pub since : AreKeptSince script.members part.missing script.members (start.entries ∷ []) before after
  pub untouched : AreUntouched part.missing before after

-- so it is from the start that its end tells
abbrev pub IsAgeOf : Script → Part → Mode → ℕ → YardState → YardState → AgeEnd → Type 0
IsAgeOf script part mode nth before after age =
    IsAgeFrom (start_of script part age) script part mode nth before after age

-- these ages came one after the other, the first of them as number nth of the run
abbrev pub AreAges : Script → Part → Mode → ℕ → YardState → List AgeEnd → YardState → Type 0
AreAges script part mode nth before [] after = before ≡ after
AreAges script part mode nth before (age ∷ ages) after =
    (between : YardState) × IsAgeOf script part mode nth before between age
    × AreAges script part mode (nth + 1) between ages after

-- the entries of their starts
abbrev pub starts_of : List AgeEnd → List (List Entry)
starts_of ages = map (λ (age : AgeEnd). age.start) ages
