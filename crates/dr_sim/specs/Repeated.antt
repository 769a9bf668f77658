-- What a script, a start and the number of an age leave open of a simulation: nothing, where no log failed.
use Rattle.std.specs.Prelude.{◌≡◌, ℕ}
use Rattle.dr_play.specs.Logged.{NoneStopped}
use Rattle.dr_entry.specs.declared.end.AgeEnd.{AgeEnd}
use Rattle.dr_program.specs.Program.{Program}
use Rattle.dr_restart.specs.declared.start.Start.{Start}
use Rattle.dr_script.specs.declared.script.Script.{Script}
use Rattle.dr_sim.specs.Simulated.{IsSimulated}

-- two simulations of one age in which no member was ended by its log come to the same
abbrev pub IsRepeated : Script → Start → ℕ → Type 0
IsRepeated script start nth = (one other : AgeEnd) (p q : Program) → IsSimulated script start nth one p
    → IsSimulated script start nth other q → NoneStopped one.members → NoneStopped other.members → one ≡ other
