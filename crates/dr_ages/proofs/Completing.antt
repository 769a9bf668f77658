-- Simulated ages whose members come to the end of their work.
use Rattle.std.proofs.Common.{◌≡◌, sym, subst, inl, inr, ℕ}
use Rattle.dr_play.specs.{Age.IsAge, Logged.NoneStopped}
use Rattle.dr_program_laws.{specs.Ended.AreComplete, proofs.Failing.all_failing}
use Rattle.dr_complete.{specs.Time.HasTime, proofs.Scripts.completes_by_script}
use Rattle.dr_entry.specs.declared.end.AgeEnd.{AgeEnd}
use Rattle.dr_history.specs.Soundness.{IsNobodyLate}
use Rattle.dr_machine.specs.Group.{AllPresent, IsGroup}
use Rattle.dr_program.specs.Program.{Program}
use Rattle.dr_restart.specs.{Groups.group_of, declared.start.Start.Start}
use Rattle.dr_script.specs.{Ranges.HasRanges, declared.script.{Schedule.Schedule, Script.Script}}
use Rattle.dr_sim.{specs.Simulated.{IsRunBy, IsSimulated}, proofs.Courses.{schedule_ends, schedule_ran}}
use Rattle.dr_sim.proofs.Simulations.{none_failed}
use Rattle.dr_ages.specs.{Ages.IsPlayed, declared.mode.Mode.{Mode, TheVariants.{Sim, Run}}}

-- a script that gives its members time enough makes them complete in an age of which no log failed
pub complete_by_time : (script : Script) (start : Start) (nth : ℕ) (age : AgeEnd) (over : Program)
    → IsGroup (group_of script start) → AllPresent (group_of script start)
    → IsNobodyLate (group_of script start).opening → HasRanges script → IsSimulated script start nth age over
    → HasTime script → NoneStopped age.members → AreComplete (group_of script start).opening age.members
complete_by_time script start nth age over is whole prompt ranges sim time stopped =
    subst (λ (a : AgeEnd). AreComplete (group_of script start).opening a.members) (sym sim.told) (elim sim.run.well [
      | inl well ↦ completes_by_script script start nth sim.begun over sim.run.moves is whole prompt ranges time
          sim.begins well (subst (λ (schedule : Schedule). IsRunBy schedule sim.begun sim.run.moves over)
          time.lockstep sim.run.by)
      | inr failed ↦ absurd (none_failed over (schedule_ends script.schedule sim.begun over sim.run)
          (all_failing script start nth sim.begun over is ranges.group.lists ranges.some_turn sim.begins
          (schedule_ran script.schedule sim.begun over sim.run))
          (subst (λ (a : AgeEnd). NoneStopped a.members) sim.told stopped) failed)
    ])

-- so it is with an age that was played so
pub complete_in : (mode : Mode) (script : Script) (start : Start) (nth : ℕ) (age : AgeEnd)
    → IsGroup (group_of script start) → HasRanges script → IsAge (IsPlayed mode) script start nth age
    → AllPresent (group_of script start) → IsNobodyLate (group_of script start).opening → mode ≡ Sim → HasTime script
    → NoneStopped age.members → AreComplete (group_of script start).opening age.members
complete_in Sim script start nth age group ranges is whole prompt simulated time stopped =
    complete_by_time script start nth age is.over group whole prompt ranges is.run time stopped
complete_in Run script start nth age group ranges is whole prompt simulated time stopped = absurd (cc simulated)
