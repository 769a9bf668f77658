use Rattle.std.proofs.Common.{take}
use Rattle.dr_history.specs.Restarting.{AllStandBelow}
use Rattle.dr_restart.specs.Groups.{first_group_of}
use Rattle.dr_quorum.specs.Reading.{IsRead}
use Rattle.dr_quorum.proofs.reading.first_foreign.Given as goal

abbrev pub invariant-loop-at : goal.invariant-loop-at
invariant-loop-at l =
    IsRead (take l.at l.entries) l.view l.counts × AllStandBelow (first_group_of l.script).opening l.entries l.at
