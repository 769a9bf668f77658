-- What a simulated age is.
use Rattle.std.specs.Prelude.{◌≡◌, ◌⊎◌, ℕ, List, Some}
use Rattle.dr_entry.specs.declared.end.AgeEnd.{AgeEnd}
use Rattle.dr_script.specs.declared.script.{Schedule.{Schedule, TheVariants.{Lockstep, Seed}}, Script.Script}
use Rattle.dr_program.specs.{Presence.present_at, Program.{AllOk, Move, Program, age_of}, Running.Running}
use Rattle.dr_program.specs.{Schedule.{IsLockstep, IsSeeded}, declared.outcome.LogWhy.LogWhy}
use Rattle.dr_restart.specs.{Groups.group_of, Setups.IsBegun, declared.start.Start.Start}

-- the program has run by the schedule until all its members had ended, by these moves
abbrev pub IsRunBy : Schedule → Program → List Move → Program → Type 0
IsRunBy Lockstep begun es p = IsLockstep begun es p
IsRunBy (Seed seed) begun es p = IsSeeded seed begun es p

-- some member's append has failed
abbrev pub SomeFailed : Program → Type 0
SomeFailed p = (m : ℕ) × (r : Running) × (why : LogWhy) × (present_at p.members m ≡ Some r)
    × (r.failed ≡ Some why)

-- all appends of these moves to p went well, unless some member's has failed
abbrev pub WentWell : List Move → Program → Type 0
WentWell es p = AllOk es ⊎ SomeFailed p

-- the program has run by the schedule
pub record HasRun (schedule : Schedule) (begun p : Program) : Type 0 where
  pub moves : List Move
  pub by : IsRunBy schedule begun moves p
  pub well : WentWell moves p

-- the age is that of the script's program, which begins from the start, with the faults of the age that is
-- number nth of the run, and runs by the script's schedule until it is over
pub record IsSimulated (script : Script) (start : Start) (nth : ℕ) (age : AgeEnd) (over : Program) : Type 0 where
  pub begun : Program
  pub begins : IsBegun script start nth begun
  pub run : HasRun script.schedule begun over
  pub told : age ≡ age_of (group_of script start).opening over
