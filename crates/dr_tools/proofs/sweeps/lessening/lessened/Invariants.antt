use Rattle.std.{specs.List.sum, proofs.Common.{◌≤◌, true}}
use Rattle.dr_progress.specs.Progress.{Waits}
use Rattle.dr_tools.specs.Shrinking.{EndsUnder}
use Rattle.dr_tools.proofs.sweeps.lessening.lessened.Given as goal

abbrev pub invariant-loop-halvings : goal.invariant-loop-halvings
invariant-loop-halvings g l = EndsUnder l.script l.late l.wanted l.less.items true
    × (sum l.less.items ≤ sum l.fn.limits.items) × Waits l.initial.progress l.progress
