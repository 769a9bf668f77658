use Rattle.std.proofs.Common.{◌≤◌, ◌-◌, length}
use Rattle.dr_yard.proofs.file_disk.read_from.Given as goal

abbrev pub invariant-loop-count : goal.invariant-loop-count
invariant-loop-count l = l.count ≤ length l.into

abbrev pub decreases-loop-count : goal.decreases-loop-count
decreases-loop-count l = length l.into - l.count
