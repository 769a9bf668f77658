use Rattle.std.proofs.Common.{◌-◌}
use Rattle.dr_yard.proofs.gates.closed_gate.Given as goal

abbrev pub decreases-loop-at : goal.decreases-loop-at
decreases-loop-at l = l.len - l.at
