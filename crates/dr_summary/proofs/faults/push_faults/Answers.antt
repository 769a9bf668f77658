use Rattle.std.proofs.Common.{string_bytes, arith, rules}
use Rattle.dr_entry.proofs.ListFacts.{numbered_texts_more}
use Rattle.dr_summary.specs.Notes.{fault_in}
use Rattle.dr_summary.proofs.faults.push_faults.Goals as goal

pub loop-number-preserved : goal.loop-number-preserved
loop-number-preserved c =
    numbered_texts_more (λ t. fault_in c.args.faults.now c.args.nth c.args.members.now t.0 t.1) c.args.faults.now
    c.loop-number.number _ (string_bytes c.args.out.now) (string_bytes c.loop-number.out)
    (string_bytes c.push_fault_in.new.out) (omega arith) (search rules) c.loop-number.invariant
    c.in_ok-push_fault_in.ensures
