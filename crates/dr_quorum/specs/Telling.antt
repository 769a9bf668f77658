-- What it tells where the logs that are handed in make no start.
use Rattle.std.specs.Prelude.{Option, None, Some, IfSome}
use Rattle.dr_history.specs.declared.opening.Opening.{Opening}
use Rattle.dr_restart.specs.{Choosing.Handed, Refusing.{IsRefusedFor, Refusal}}
use Rattle.dr_restart.specs.Refusing.Refusal.{AgesUsedUp, Disagree, Foreign, NoQuorum}
use Rattle.dr_quorum.specs.declared.faults.ChooseFault.{ChooseFault}
use Rattle.dr_quorum.specs.declared.faults.ChooseFault.TheVariants as faults

-- the reason that a fault tells, and none of want of memory
abbrev pub reason_of : ChooseFault → Option Refusal
reason_of faults.OutOfMemory = None
reason_of (faults.Foreign member place) = Some (Foreign member place)
reason_of (faults.NoQuorum view have need) = Some (NoQuorum view have need)
reason_of (faults.Disagree a b place) = Some (Disagree a b place)
reason_of faults.AgesUsedUp = Some AgesUsedUp

-- the logs are refused for the reason that it tells
abbrev pub IsRightlyTold : Opening → Handed → ChooseFault → Type 0
IsRightlyTold o h fault = IfSome (reason_of fault) (IsRefusedFor o h)
