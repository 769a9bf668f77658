use Rattle.std.{specs.List.flat_map, proofs.Common.{◌≡◌, ◌++◌, string_bytes, take}}
use Rattle.dr_commands.specs.DrillLines.{drilled_text}
use Rattle.dr_commands.proofs.drill.lines.push_ages.Given as goal

abbrev pub invariant-loop-age : goal.invariant-loop-age
invariant-loop-age l =
    string_bytes l.out ≡ string_bytes l.initial.out ++ flat_map drilled_text (take l.age-index l.ages)
