use Rattle.std.proofs.Common.{string_bytes, arith, rules}
use Rattle.dr_entry.proofs.ListFacts.{numbered_texts_more}
use Rattle.dr_json.specs.Json.{fault_json}
use Rattle.dr_json.proofs.script.push_faults.Goals as goal

pub loop-index-preserved : goal.loop-index-preserved
loop-index-preserved c = numbered_texts_more (λ t. fault_json t.0 t.1) c.args.faults.now c.loop-index.index
    _ (string_bytes c.args.out.now) (string_bytes c.loop-index.out)
    (string_bytes c.push_fault.new.out) (omega arith) (search rules) c.loop-index.invariant c.in_ok-push_fault.ensures
