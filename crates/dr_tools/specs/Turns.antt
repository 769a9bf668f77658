-- How many turns a group takes in lockstep without faults.
use Rattle.std.specs.{List.list_all, Prelude.{◌≡◌, ℕ, ◌-◌, ◌<◌, Bool, true, false, []}}
use Rattle.dr_play.specs.Logged.{NoneStopped}
use Rattle.dr_entry.specs.declared.end.{AgeEnd.AgeEnd, End.{End, TheVariants.Done}, MemberEnd.MemberEnd}
use Rattle.dr_program.specs.Program.{Program}
use Rattle.dr_restart.specs.Groups.{first_start_of}
use Rattle.dr_script.specs.declared.script.{Schedule.TheVariants.Lockstep, Script.Script}
use Rattle.dr_sim.specs.Simulated.{IsSimulated}

-- the script with so many turns
abbrev pub with_turns : Script → ℕ → Script
with_turns s turns = record s { turns = turns }

-- the script without its faults, in lockstep
abbrev pub calm_group : Script → Script
calm_group s = record s { faults = []; schedule = Lockstep }

-- the first age of the script was simulated so, over logs that stopped nobody: so there is no other such age
pub record IsFirstAge (script : Script) (age : AgeEnd) : Type 0 where
  pub over : Program
  pub run : IsSimulated script (first_start_of script) 0 age over
  pub stored : NoneStopped age.members

-- whether a member ended as done
abbrev pub is_done : End → Bool
is_done Done = true
is_done end = false

-- whether all members are done where the first age of the script ends
pub record EndDone (script : Script) (yes : Bool) : Type 0 where
  pub age : AgeEnd
  pub is : IsFirstAge script age
  pub done : yes ≡ list_all (λ (m : MemberEnd). is_done m.end) age.members

-- with so many turns all are done, with one less they aren't
pub record TakesTurns (s : Script) (turns : ℕ) : Type 0 where
  pub enough : EndDone (with_turns s turns) true
  pub fewer : 1 < turns → EndDone (with_turns s (turns - 1)) false
