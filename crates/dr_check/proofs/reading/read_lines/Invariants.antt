use Rattle.std.proofs.Common.{length}
use Rattle.dr_check.specs.Progress.{HasRead}
use Rattle.dr_check.proofs.reading.read_lines.Given as goal

abbrev pub invariant-loop-rest : goal.invariant-loop-rest
invariant-loop-rest l = HasRead l.members l.text l.rest l.found.items l.course

abbrev pub decreases-loop-rest : goal.decreases-loop-rest
decreases-loop-rest l = length l.rest
