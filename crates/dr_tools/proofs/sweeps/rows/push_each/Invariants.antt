use Rattle.std.{specs.List.flat_map, proofs.Common.{◌≡◌, ◌++◌, string_bytes, take}}
use Rattle.dr_tools.specs.Rows.{outcome_row}
use Rattle.dr_tools.proofs.sweeps.rows.push_each.Given as goal

abbrev pub invariant-loop-row : goal.invariant-loop-row
invariant-loop-row l = string_bytes l.out
    ≡ string_bytes l.initial.out ++ flat_map (outcome_row l.variants) (take l.row-index l.rows)
