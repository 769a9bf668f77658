use Rattle.std.proofs.Common.{arith, rules}
use Rattle.dr_tools.proofs.Keeping.{kept_more}
use Rattle.dr_tools.proofs.sweeps.parts.kept_faults.Goals as goal

pub loop-index-preserved : goal.loop-index-preserved
loop-index-preserved c =
    kept_more c.args.keeps.now c.args.faults.now c.loop-index.index c.stays.result _ c.loop-index.out.items
    c.push_fault.new.out.items (omega arith) (search rules) c.stays.ensures c.loop-index.invariant
    c.in_ok-push_fault.ensures
