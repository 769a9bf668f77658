use Rattle.std.proofs.Common.{[], rules}
use Rattle.dr_entry.proofs.ListFacts.{numbered_texts_more}
use Rattle.dr_summary.specs.Notes.{undelivered_of}
use Rattle.dr_summary.proofs.undelivered.undelivered.Goals as goal

pub loop-sender-preserved : goal.loop-sender-preserved
loop-sender-preserved c =
    numbered_texts_more (λ t. undelivered_of c.args.history.now t.0 t.1) c.args.script.now.messages
    c.loop-sender.sender c.messages-item.result [] c.loop-sender.names.items
    c.push_undelivered_of.new.names.items (search rules) (search rules) c.loop-sender.invariant
    c.in_ok-push_undelivered_of.ensures
