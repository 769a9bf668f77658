use Rattle.std.proofs.Common.{arith, length, string_bytes}
use Rattle.dr_entry.proofs.ListFacts.{numbered_texts_more}
use Rattle.dr_history.specs.Order.{messages_from}
use Rattle.dr_commands.specs.LiveLines.{sender_line}
use Rattle.dr_commands.proofs.live.lines.push_senders.Goals as goal

pub loop-number-preserved : goal.loop-number-preserved
loop-number-preserved c = numbered_texts_more
    (λ t. sender_line t.0 (length t.1) (length (messages_from t.0 c.args.history.now))) c.args.pushed.now
    c.loop-number.number c.index-pushed-number.result (string_bytes c.args.out.now) (string_bytes c.loop-number.out)
    (string_bytes c.push_sender.new.out) (omega arith) c.index-pushed-number.is c.loop-number.invariant
    c.in_ok-push_sender.ensures
