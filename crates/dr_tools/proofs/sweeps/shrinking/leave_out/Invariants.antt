use Rattle.dr_progress.specs.Progress.{Waits}
use Rattle.dr_tools.specs.Shrinking.{EndsSoWith}
use Rattle.dr_tools.proofs.sweeps.shrinking.leave_out.Given as goal

abbrev pub invariant-loop-piece : goal.invariant-loop-piece
invariant-loop-piece g l = EndsSoWith l.script l.late l.wanted l.keeps.items × Waits l.initial.progress l.progress
