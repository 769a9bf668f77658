-- Why a run ends, by why an age was not opened.
use Rattle.std.specs.Prelude.{ℕ}
use Rattle.dr_opening.specs.declared.age.NotOpened.{NotOpened, TheVariants.{Unchosen, Unfinished}}
use Rattle.dr_opening.specs.declared.catching_up.CatchFault.{CatchFault}
use Rattle.dr_opening.specs.declared.catching_up.CatchFault.TheVariants as catches
use Rattle.dr_quorum.specs.declared.faults.ChooseFault.{ChooseFault}
use Rattle.dr_quorum.specs.declared.faults.ChooseFault.TheVariants as chooses
use Rattle.dr_ages.specs.declared.stop.Stop.{Stop}
use Rattle.dr_ages.specs.declared.stop.Stop.TheVariants.{OutOfMemory, DiskFault, LogFull, Disagree, Foreign, NoQuorum, AgesUsedUp}

-- by why the logs that were handed in make no start
abbrev pub stop_of_choice : ChooseFault → Stop
stop_of_choice chooses.OutOfMemory = OutOfMemory
stop_of_choice (chooses.Foreign member place) = Foreign member place
stop_of_choice (chooses.NoQuorum view have need) = NoQuorum view have need
stop_of_choice (chooses.Disagree a b place) = Disagree a b place
stop_of_choice chooses.AgesUsedUp = AgesUsedUp

-- by why the log of a member was refused what it lacked
abbrev pub stop_at : ℕ → CatchFault → Stop
stop_at member catches.OutOfMemory = OutOfMemory
stop_at member catches.DiskFault = DiskFault member
stop_at member (catches.LogFull len) = LogFull member len

-- by either
abbrev pub stop_of : NotOpened → Stop
stop_of (Unchosen fault) = stop_of_choice fault
stop_of (Unfinished fault) = stop_at fault.member fault.why
