use Rattle.std.{specs.List.{enumerate_from, flat_map}, proofs.Common.{◌≡◌, ◌+◌, ◌++◌, string_bytes, take}}
use Rattle.dr_tools.specs.Following.{came_line}
use Rattle.dr_tools.proofs.tracing.lines.push_came_lines.Given as goal

abbrev pub invariant-loop-index : goal.invariant-loop-index
invariant-loop-index l = string_bytes l.out ≡ string_bytes l.initial.out
    ++ flat_map (λ t. came_line l.me (l.first + t.0) t.1) (enumerate_from 0 (take l.index l.entries))
