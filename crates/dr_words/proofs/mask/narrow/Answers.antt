use Rattle.std.proofs.Common.{arith}
use Rattle.dr_entry.proofs.NumberFacts.{ones_low, ones_halves, ones_split}
use Rattle.dr_words.proofs.mask.narrow.Goals as goal

pub returns-then-rank-low-clause-rank : goal.returns-then-rank-low-clause-rank
returns-then-rank-low-clause-rank c = omega (arith, ones_low c.args.bits c.args.from c.args.half (omega arith))

pub returns-else-rank-low-clause-rank : goal.returns-else-rank-low-clause-rank
returns-else-rank-low-clause-rank c = omega (
  arith,
  ones_low c.args.bits c.args.from c.args.half (omega arith),
  ones_halves c.args.bits c.args.from c.args.half,
)

pub returns-else-rank-low-clause-same : goal.returns-else-rank-low-clause-same
returns-else-rank-low-clause-same c = omega (
  arith,
  ones_low c.args.bits c.args.from c.args.half (omega arith),
  ones_split c.args.bits c.args.from c.args.half,
)
