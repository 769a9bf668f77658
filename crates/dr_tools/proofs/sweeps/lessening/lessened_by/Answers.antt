use Rattle.std.proofs.Common.{arith}
use Rattle.dr_progress.proofs.Besides.{waits_at_rest, waits_both}
use Rattle.dr_tools.proofs.sweeps.lessening.lessened_by.Goals as goal

pub loop-place-init : goal.loop-place-init
loop-place-init g c = (c.requires, omega arith, waits_at_rest c.args.progress.now)

pub loop-place-preserved : goal.loop-place-preserved
loop-place-preserved g c = (
  c.in_ok-less.ensures.ends,
  omega (arith, c.in_ok-less.ensures.no_more, c.loop-place.invariant.1),
  waits_both c.args.progress.now c.loop-place.progress c.lessened_at.new.progress c.loop-place.invariant.2
      c.lessened_at.ensures.waits,
)

pub returns-clause-ends : goal.returns-clause-ends
returns-clause-ends g c = c.loop-place.invariant.0

pub returns-clause-no_more : goal.returns-clause-no_more
returns-clause-no_more g c = c.loop-place.invariant.1

pub returns-clause-waits : goal.returns-clause-waits
returns-clause-waits g c = c.loop-place.invariant.2
