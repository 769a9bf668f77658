-- A run by a schedule is a list of moves, behind which all members have ended.
use Rattle.dr_script.specs.declared.script.Schedule.{Schedule, TheVariants.{Lockstep, Seed}}
use Rattle.dr_program.{specs.Program.{AllEnded, IsRanFrom, Program}, proofs.Runs.lockstep_taken}
use Rattle.dr_sim.specs.Simulated.{HasRun}

-- a program that a schedule leads to was run
pub schedule_ran : (schedule : Schedule) (p q : Program) → HasRun schedule p q → IsRanFrom p q
schedule_ran Lockstep p q run = (run.moves, lockstep_taken p run.moves q run.by)
schedule_ran (Seed seed) p q run = (run.moves, run.by.ran)

-- a schedule ends where all members have ended
pub schedule_ends : (schedule : Schedule) (p q : Program) → HasRun schedule p q → AllEnded q
schedule_ends Lockstep p q run = run.by.ended
schedule_ends (Seed seed) p q run = run.by.ended
