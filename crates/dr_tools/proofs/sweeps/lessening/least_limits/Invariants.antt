use Rattle.std.{specs.List.sum, proofs.Common.true}
use Rattle.dr_progress.specs.Progress.{Waits}
use Rattle.dr_tools.specs.Shrinking.{EndsUnder}
use Rattle.dr_tools.proofs.sweeps.lessening.least_limits.Given as goal

abbrev pub invariant-loop-limits : goal.invariant-loop-limits
invariant-loop-limits g l =
    EndsUnder l.script l.late l.wanted l.limits.items true × Waits l.initial.progress l.progress

abbrev pub decreases-loop-limits : goal.decreases-loop-limits
decreases-loop-limits g l = sum l.limits.items
