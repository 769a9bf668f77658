-- What comes of a group whose messages are pushed while its ages run.
use Rattle.std.specs.Prelude.{◌≡◌, ℕ, ◌+◌, All, List, [], ◌∷◌, ◌++◌, length, slice_get, Option, Some}
use Rattle.dr_play.specs.Logged.{NoneStopped}
use Rattle.dr_disk.specs.Memory.{CalmState}
use Rattle.dr_entry.specs.declared.{end.{AgeEnd.AgeEnd, End.TheVariants.Done, MemberEnd.MemberEnd}, entry.Entry.Entry}
use Rattle.dr_history.specs.{Agreement.accounts_of, History.IsPrefixOf, Order.{messages_from, numbered_messages}}
use Rattle.dr_history.specs.Restarting.{Kept}
use Rattle.dr_program_laws.specs.Trusting.{NoneLeft}
use Rattle.dr_restart.specs.Groups.{first_group_of}
use Rattle.dr_script.specs.{Ranges.HasRanges, declared.script.Script.Script}
use Rattle.dr_senders.specs.Senders.{HaveGrown, Lists}
use Rattle.dr_yard.specs.{Places.place_told, Yards.{YardState, empty_yard}}
use Rattle.dr_ages.specs.{Ages.{IsAgeOf, all_but, opening_of}, Runs.IsRunOf, declared.mode.Mode.TheVariants.Run}
use Rattle.dr_ages.specs.declared.stop.Stop.{Stop, TheVariants.OutOfMemory}

-- a plan for a live group: it has one age, and nobody crashes in it or is suspected
pub record IsLivePlan (plan : Script) : Type 0 where
  pub ranges : HasRanges plan
  pub one_age : plan.ages ≡ 1
  pub patient : plan.patience ≡ 0
  pub no_faults : plan.faults ≡ []

-- the plan with these messages
abbrev pub plan_with : Script → Lists → Script
plan_with plan lists = record plan { messages = lists }

-- these ages came one after the other, in threads: each is the one age of the plan with the messages that had
-- been taken as it began
abbrev pub AreLiveAges : Script → YardState → List Lists → List AgeEnd → YardState → Type 0
AreLiveAges plan before [] [] after = before ≡ after
AreLiveAges plan before [] (age ∷ ages) after = ⊥
AreLiveAges plan before (lists ∷ taken) [] after = ⊥
AreLiveAges plan before (lists ∷ taken) (age ∷ ages) after =
    (between : YardState) × IsAgeOf (plan_with plan lists) (all_but 0) Run 0 before between age
    × AreLiveAges plan between taken ages after

-- what was taken grows from age to age
abbrev pub AreGrowing : List Lists → Type 0
AreGrowing taken = (i : ℕ) (old new : Lists) → slice_get taken i ≡ Some old
    → slice_get taken (i + 1) ≡ Some new → HaveGrown old new

-- the ages of a live group so far, over disks in memory that were empty, by what had been taken as each began
pub record AreUnderWay (plan : Script) (taken : List Lists) (ages : List AgeEnd) (after : YardState)
    : Type 0 where
  pub course : AreLiveAges plan empty_yard taken ages after
  pub growing : AreGrowing taken
  pub ranges : All (λ lists. HasRanges (plan_with plan lists)) taken
  pub calm : (m : ℕ) → after.faults m ≡ 0

-- each age keeps the one before it
abbrev pub KeepEachOther : Script → List Lists → List AgeEnd → Type 0
KeepEachOther plan taken ages = (i : ℕ) (a b : AgeEnd) (old new : Lists) → slice_get ages i ≡ Some a
    → slice_get ages (i + 1) ≡ Some b → slice_get taken i ≡ Some old → slice_get taken (i + 1) ≡ Some new
    → Kept (opening_of (plan_with plan old) (all_but 0) a) (accounts_of a.members)
    (opening_of (plan_with plan new) (all_but 0) b)

-- x is the last of them, if there are any
abbrev pub IsLastOf : {T : Type 0} → T → List T → Type 0
IsLastOf x xs = (n : ℕ) → length xs ≡ n + 1 → slice_get xs n ≡ Some x

-- the ages of a live group whose senders have pushed these messages: in the last age all of them were taken
pub record AreLive (plan : Script) (pushed : Lists) (ages : List AgeEnd) : Type 0 where
  pub taken : List Lists
  pub after : YardState
  pub way : AreUnderWay plan taken ages after
  pub all : IsLastOf pushed taken
  pub kept : KeepEachOther plan taken ages

-- the messages of a sender as entries, numbered from 0
abbrev pub pushed_by : Script → Lists → ℕ → List Entry
pushed_by plan pushed s = numbered_messages (first_group_of (plan_with plan pushed)).opening s

-- each member has delivered a first part of what each sender has pushed
abbrev pub DeliversPushed : Script → Lists → List MemberEnd → Type 0
DeliversPushed plan pushed ends = All (λ (e : MemberEnd).
    (s : ℕ) → IsPrefixOf (messages_from s e.history) (pushed_by plan pushed s)) ends

-- each member has delivered all of it
abbrev pub DeliversAll : Script → Lists → List MemberEnd → Type 0
DeliversAll plan pushed ends = All (λ (e : MemberEnd).
    (s : ℕ) → messages_from s e.history ≡ pushed_by plan pushed s) ends

-- all members have ended as done
abbrev pub EndAsDone : List MemberEnd → Type 0
EndAsDone ends = All (λ (e : MemberEnd). e.end ≡ Done) ends

-- the first age begins with nothing
pub record BeginsAnew (age : AgeEnd) : Type 0 where
  pub number : age.age ≡ 0
  pub start : age.start ≡ []

-- what comes of a live group in so many rounds, whose senders have pushed these messages
pub record HasLived (plan : Script) (rounds : ℕ) (pushed : Lists) (ages : List AgeEnd) : Type 0 where
  -- there is an age for each round and a last one, and the first of them begins with nothing
  pub count : length ages ≡ rounds + 1
  pub first : (age : AgeEnd) → slice_get ages 0 ≡ Some age → BeginsAnew age
  -- each is a run of the plan with the messages that had been taken until then, its members come to their
  -- ends and agree, and it keeps the age before
  pub live : AreLive plan pushed ages
  -- what is delivered was pushed, in this order, and where all members of the last age are done it is all
  pub delivered : All (λ (age : AgeEnd). DeliversPushed plan pushed age.members) ages
  pub whole : (age : AgeEnd) → IsLastOf age ages → EndAsDone age.members → DeliversAll plan pushed age.members
  -- no log stops a member, and nobody is suspected
  pub stored : All (λ (age : AgeEnd). NoneStopped age.members) ages
  pub trusting : All (λ (age : AgeEnd). NoneLeft age.members) ages

-- ---- one age

-- the group of these ages may have its next one with these messages
pub record AreReadyFor (plan : Script) (lists : Lists) (ages : List AgeEnd) (after : YardState) : Type 0 where
  pub taken : List Lists
  pub way : AreUnderWay plan taken ages after
  pub growing : AreGrowing (taken ++ lists ∷ [])

-- the last of these ages had these messages
pub record AreUpTo (plan : Script) (lists : Lists) (ages : List AgeEnd) (after : YardState) : Type 0 where
  pub taken : List Lists
  pub way : AreUnderWay plan (taken ++ lists ∷ []) ages after

-- the state of a yard of disks in memory that never fail
abbrev pub calm_yard : List (Option CalmState) → YardState
calm_yard places = record { told = place_told places; faults = λ m. 0 }

-- over these disks, as long as none of them fails, nothing is in the way of the ages of a script but want of
-- memory
abbrev pub OpensAlways : Script → YardState → Type 0
OpensAlways script yard = (after : YardState) (ages : List AgeEnd) (stop : Stop)
    → ((m : ℕ) → after.faults m ≡ 0) → IsRunOf script (all_but 0) Run yard after ages (Some stop) → stop ≡ OutOfMemory
