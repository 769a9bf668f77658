use Rattle.std.proofs.Common.{◌≡◌, ◌+◌, ◌++◌, List, length, vec_len}
use Rattle.dr_check.specs.{Course.read_from, declared.line.Line.Line}
use Rattle.dr_check.proofs.assembling.report_of.Given as goal

abbrev pub invariant-loop-line : goal.invariant-loop-line
invariant-loop-line l = (rest : List Line) × (l.fn.lines.items ≡ l.lines.items ++ rest)
    × (l.read ≡ read_from (1 + length l.lines.items) rest)

abbrev pub decreases-loop-line : goal.decreases-loop-line
decreases-loop-line l = vec_len l.lines
