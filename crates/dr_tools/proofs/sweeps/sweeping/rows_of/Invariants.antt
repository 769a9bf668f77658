use Rattle.std.proofs.Common.{◌≤◌, All}
use Rattle.dr_progress.specs.Progress.{Waits}
use Rattle.dr_tools.specs.{Rows.IsTally, Variants.{first_variant, variant}, declared.sweeps.rows.Row.Row}
use Rattle.dr_tools.proofs.sweeps.sweeping.rows_of.Given as goal

abbrev pub invariant-loop-number : goal.invariant-loop-number
invariant-loop-number g l = IsTally (variant l.variants l.script) l.late
    (first_variant l.variants) l.number l.rows.items × All (λ (r : Row). r.count ≤ l.number) l.rows.items × Waits l.initial.progress l.progress
