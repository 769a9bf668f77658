use Rattle.std.proofs.Common.{◌==◌, arith}
use Rattle.dr_lane.proofs.Blocks.{block_counted}
use Rattle.dr_lane.proofs.count_equal.Goals as goal

pub loop-at-preserved : goal.loop-at-preserved
loop-at-preserved c = (
  omega arith,
  block_counted (λ word. word == c.args.to) c.args.words.now c.loop-at.at c.loop-at.count c.marks.result c.loop-at.invariant.1 c.marks.ensures,
)
