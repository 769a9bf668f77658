use Rattle.dr_progress.proofs.Besides.{waits_at_rest, waits_both}
use Rattle.dr_tools.proofs.sweeps.shrinking.leave_out.Goals as goal

pub loop-piece-init : goal.loop-piece-init
loop-piece-init g c = (c.requires, waits_at_rest c.args.progress.now)

pub loop-piece-preserved : goal.loop-piece-preserved
loop-piece-preserved g c = (
  c.in_ok-keeps.ensures.ends,
  waits_both c.args.progress.now c.loop-piece.progress c.without_piece.new.progress c.loop-piece.invariant.1
      c.without_piece.ensures.waits,
)

pub returns-clause-ends : goal.returns-clause-ends
returns-clause-ends g c = c.loop-piece.invariant.0

pub returns-clause-waits : goal.returns-clause-waits
returns-clause-waits g c = c.loop-piece.invariant.1
