use Rattle.std.proofs.Common.{◌≡◌, ◌++◌, take, string_bytes}
use Rattle.dr_commands.specs.DrillLines.{end_lines}
use Rattle.dr_commands.proofs.drill.lines.push_end_lines.Given as goal

abbrev pub invariant-loop-number : goal.invariant-loop-number
invariant-loop-number l = string_bytes l.out ≡ string_bytes l.initial.out ++ end_lines (take l.number l.members)
