use Rattle.std.proofs.Common.{◌-◌, length}
use Rattle.dr_tools.proofs.explaining.hints.Before.end_of.Given as goal

abbrev pub decreases-loop-at : goal.decreases-loop-at
decreases-loop-at l = length l.text - l.at
