use Rattle.std.proofs.Common.{ℕ, ◌<◌, false}
use Rattle.dr_json.specs.Json.{script_json}
use Rattle.dr_progress.specs.Progress.{Waits}
use Rattle.dr_tools.specs.{Outcomes.TextEndsSo, Variants.variant}
use Rattle.dr_tools.proofs.sweeps.shrinking.shrunk.Given as goal

abbrev pub invariant-loop-number : goal.invariant-loop-number
invariant-loop-number g l =
    ((n : ℕ) → n < l.number → TextEndsSo (script_json (variant l.variants l.script n)) l.late l.wanted false)
    × Waits l.initial.progress l.progress
