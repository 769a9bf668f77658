-- What an age of a script is, whatever the order of its deeds.
use Rattle.std.specs.Prelude.{◌≡◌, ℕ}
use Rattle.dr_entry.specs.declared.end.AgeEnd.{AgeEnd}
use Rattle.dr_program.specs.Program.{AllEnded, IsRanFrom, Program, age_of}
use Rattle.dr_restart.specs.{Groups.group_of, Setups.IsBegun, declared.start.Start.Start}
use Rattle.dr_script.specs.declared.script.Script.{Script}

-- the age is that of the script's program, which begins from the start, with the faults of the age that is
-- number nth of the run, and has taken some deeds, until it was over, as all its members had ended
pub record IsRun (script : Script) (start : Start) (nth : ℕ) (age : AgeEnd) (over : Program) : Type 0 where
  pub begun : Program
  pub begins : IsBegun script start nth begun
  pub ran : IsRanFrom begun over
  pub ended : AllEnded over
  pub told : age ≡ age_of (group_of script start).opening over
