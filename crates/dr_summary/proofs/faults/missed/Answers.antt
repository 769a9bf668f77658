use Rattle.std.proofs.Common.{[], arith, rules}
use Rattle.dr_entry.proofs.ListFacts.{numbered_texts_more}
use Rattle.dr_summary.specs.Notes.{missed_in}
use Rattle.dr_summary.proofs.faults.missed.Goals as goal

pub loop-number-preserved : goal.loop-number-preserved
loop-number-preserved c =
    numbered_texts_more (λ t. missed_in c.args.faults.now c.args.nth c.args.members.now t.0 t.1) c.args.faults.now
    c.loop-number.number _ [] c.loop-number.numbers.items c.push_missed_in.new.numbers.items (omega arith)
    (search rules) c.loop-number.invariant c.in_ok-push_missed_in.ensures
