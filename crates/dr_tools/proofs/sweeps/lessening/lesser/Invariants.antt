use Rattle.std.proofs.Common.{ℕ, ◌<◌}
use Rattle.dr_progress.specs.Progress.{Waits}
use Rattle.dr_tools.specs.Shrinking.{IsLeastAt}
use Rattle.dr_tools.proofs.sweeps.lessening.lesser.Given as goal

abbrev pub invariant-loop-place : goal.invariant-loop-place
invariant-loop-place g l = ((k : ℕ) → k < l.place → IsLeastAt l.script l.late l.wanted l.limits k)
    × Waits l.initial.progress l.progress
