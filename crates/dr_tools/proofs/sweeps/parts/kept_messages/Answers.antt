use Rattle.std.proofs.Common.{[], ◌∷◌, arith, if◌then◌else◌, rules}
use Rattle.dr_entry.proofs.ListFacts.{numbered_texts_more}
use Rattle.dr_tools.specs.Parts.{stays}
use Rattle.dr_tools.proofs.sweeps.parts.kept_messages.Goals as goal

pub loop-index-preserved : goal.loop-index-preserved
loop-index-preserved c =
    numbered_texts_more (λ t. if stays c.args.keeps.now t.0 then t.1 ∷ [] else []) c.args.messages.now
    c.loop-index.index c.index-messages-index.result [] c.loop-index.out.items c.push_message.new.out.items
    (omega arith) c.index-messages-index.is c.loop-index.invariant (search rules)
