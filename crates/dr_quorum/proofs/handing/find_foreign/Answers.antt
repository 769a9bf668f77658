use Rattle.std.proofs.Common.{arith}
use Rattle.dr_quorum.proofs.Holding.{handed_within}
use Rattle.dr_quorum.proofs.handing.find_foreign.Goals as goal

pub returns-clause-none : goal.returns-clause-none
returns-clause-none c m log at =
    c.loop-m.invariant m log (omega (arith, handed_within c.args.lists.now m log at, c.loop-m-test.false)) at
