use Rattle.dr_progress.proofs.Besides.{waits_at_rest, waits_both}
use Rattle.dr_tools.proofs.sweeps.shrinking.fewest_parts.Goals as goal

pub loop-halvings-init : goal.loop-halvings-init
loop-halvings-init g c = (c.requires, waits_at_rest c.args.progress.now)

pub loop-halvings-preserved : goal.loop-halvings-preserved
loop-halvings-preserved g c = (
  c.in_ok-keeps.ensures.ends,
  waits_both c.args.progress.now c.loop-halvings.progress c.leave_out_large.new.progress c.loop-halvings.invariant.1
      c.leave_out_large.ensures.waits,
)

pub loop-init : goal.loop-init
loop-init g c = (c.loop-halvings.invariant.0, waits_at_rest c.loop-halvings.progress)

pub loop-preserved : goal.loop-preserved
loop-preserved g c = (
  c.in_ok-keeps-2.ensures.ends,
  waits_both c.loop-halvings.progress c.loop.progress c.leave_out.new.progress c.loop.invariant.1
      c.leave_out.ensures.waits,
)

pub returns-then-kept_count-before-clause-waits : goal.returns-then-kept_count-before-clause-waits
returns-then-kept_count-before-clause-waits g c =
    waits_both c.args.progress.now c.loop-halvings.progress c.leave_out.new.progress c.loop-halvings.invariant.1
    (waits_both c.loop-halvings.progress c.loop.progress c.leave_out.new.progress c.loop.invariant.1
    c.leave_out.ensures.waits)

pub returns-clause-ends : goal.returns-clause-ends
returns-clause-ends g c = c.loop.invariant.0

pub returns-clause-waits : goal.returns-clause-waits
returns-clause-waits g c =
    waits_both c.args.progress.now c.loop-halvings.progress c.loop.progress c.loop-halvings.invariant.1
    c.loop.invariant.1
