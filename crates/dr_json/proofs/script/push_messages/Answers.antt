use Rattle.std.proofs.Common.{string_bytes, arith}
use Rattle.dr_entry.proofs.ListFacts.{numbered_texts_more}
use Rattle.dr_json.specs.Json.{element_json}
use Rattle.dr_json.proofs.script.push_messages.Goals as goal

pub loop-index-preserved : goal.loop-index-preserved
loop-index-preserved c = numbered_texts_more (λ t. element_json t.0 t.1) c.args.messages.now c.loop-index.index
    c.index-messages-index.result (string_bytes c.args.out.now) (string_bytes c.loop-index.out)
    (string_bytes c.push_element.new.out) (omega arith) c.index-messages-index.is c.loop-index.invariant c.in_ok-push_element.ensures
