use Rattle.std.proofs.Common.{◌-◌}
use Rattle.dr_yard.proofs.file_disk.sum_of_file.Given as goal

abbrev pub decreases-loop-at : goal.decreases-loop-at
decreases-loop-at l = l.length - l.at
