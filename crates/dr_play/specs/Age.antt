-- What an age is, whoever plays it.
use Rattle.std.specs.Prelude.{◌≡◌, ℕ, List, length, Option}
use Rattle.dr_disk.specs.Disk.{Told}
use Rattle.dr_entry.specs.declared.end.AgeEnd.{AgeEnd}
use Rattle.dr_history.specs.Agreement.{EndsAgreed}
use Rattle.dr_log.specs.State.{LogState}
use Rattle.dr_served.specs.Served.{HaveSamePlaces}
use Rattle.dr_program.specs.Program.{Program}
use Rattle.dr_program_laws.specs.{Ended.HaveEnded, Trusting.{NoneLeft, SuspectsNobody}}
use Rattle.dr_restart.specs.{Groups.group_of, Setups.crashes_of, declared.start.Start.Start}
use Rattle.dr_script.specs.declared.script.Script.{Script}
use Rattle.dr_play.specs.Logged.{AreAmple, HaveCome, NoneFull}

-- this is age number nth of a run of the script, from 0, from this start: it was played so until its program was over,
-- and its members agree, and end as they should
pub record IsAge (plays : Script → Start → ℕ → AgeEnd → Program → Type 0) (script : Script) (start : Start) (nth : ℕ)
    (age : AgeEnd) : Type 0 where
  pub over : Program
  pub run : plays script start nth age over
  pub roster : length age.members ≡ script.members
  pub agreed : EndsAgreed (group_of script start).opening age.members
  pub ended : HaveEnded (group_of script start).opening script.turns (crashes_of script.faults nth) age.members
  pub trusting : SuspectsNobody script → NoneLeft age.members

-- and over these logs, to which its members append: how a member stands at the end says what stands on its log, and
-- what a crash may have left of it at any moment
pub record IsAgeOn {D : Type 0} (plays : Script → Start → ℕ → AgeEnd → Program → Type 0) (told : D → Option Told)
    (faults : D → ℕ) (script : Script) (start : Start) (nth : ℕ) (olds news : List (Option (LogState D))) (age : AgeEnd)
    : Type 0 where
  pub played : IsAge plays script start nth age
  pub logged : HaveCome told faults olds news played.over.members
  pub ample : AreAmple (group_of script start) olds → NoneFull age.members
  pub places : HaveSamePlaces olds news
