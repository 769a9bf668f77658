use Rattle.std.proofs.Common.{◌-◌, length}
use Rattle.dr_seat.proofs.run.Run.gather.Given as goal

abbrev pub decreases-loop-from : goal.decreases-loop-from
decreases-loop-from l = 1320 - length l.into.bytes.items
