use Rattle.dr_progress.specs.Progress.{Waits}
use Rattle.dr_tools.specs.Shrinking.{EndsSoWith}
use Rattle.dr_tools.proofs.sweeps.shrinking.fewest_parts.Given as goal

abbrev pub invariant-loop-halvings : goal.invariant-loop-halvings
invariant-loop-halvings g l = EndsSoWith l.script l.late l.wanted l.keeps.items × Waits l.initial.progress l.progress

abbrev pub invariant-loop : goal.invariant-loop
invariant-loop g l = EndsSoWith l.script l.late l.wanted l.keeps.items × Waits l.initial.progress l.progress
