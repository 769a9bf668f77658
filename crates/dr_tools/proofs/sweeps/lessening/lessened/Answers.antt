use Rattle.std.proofs.Common.{arith}
use Rattle.dr_progress.proofs.Besides.{waits_at_rest, waits_both}
use Rattle.dr_tools.proofs.sweeps.lessening.lessened.Goals as goal

pub loop-halvings-init : goal.loop-halvings-init
loop-halvings-init g c = (c.requires, omega arith, waits_at_rest c.args.progress.now)

pub loop-halvings-preserved : goal.loop-halvings-preserved
loop-halvings-preserved g c = (
  c.in_ok-less.ensures.ends,
  omega (arith, c.in_ok-less.ensures.no_more, c.loop-halvings.invariant.1),
  waits_both c.args.progress.now c.loop-halvings.progress c.lessened_by.new.progress c.loop-halvings.invariant.2
      c.lessened_by.ensures.waits,
)

pub returns-clause-ends : goal.returns-clause-ends
returns-clause-ends g c = c.loop-halvings.invariant.0

pub returns-clause-no_more : goal.returns-clause-no_more
returns-clause-no_more g c = c.loop-halvings.invariant.1

pub returns-clause-waits : goal.returns-clause-waits
returns-clause-waits g c = c.loop-halvings.invariant.2
