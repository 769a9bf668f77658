use Rattle.std.proofs.Common.{◌≡◌, ◌+◌, ◌++◌, ◌∷◌, [], List, length, take, length-take, refl, sym, ap, ◌∙◌, arith}
use Rattle.std.proofs.lemmas.List.{take_all, take_more}
use Rattle.dr_entry.specs.declared.entry.Entry.{Entry}
use Rattle.dr_history.specs.Order.{messages_from}
use Rattle.dr_history.proofs.{NumberedLemmas.{counted_message, passed_message, counted_view}, Orders.few_messages}
use Rattle.dr_replica.proofs.history.count_messages.Goals.{in-Msg+then-sender-counts, in-Msg+else-sender-counts, in_default}
use Rattle.dr_replica.proofs.history.count_messages.Goals as goal

pub loop-entry-init : goal.loop-entry-init
loop-entry-init c = record { counts = λ s l. c.requires.zero s; long = refl }

pub overflow_add-counts : goal.overflow_add-counts
overflow_add-counts c = omega (
  arith,
  c.loop-entry.invariant.counts c.from-sender.result c.if-sender-counts.true,
  few_messages c.from-sender.result (take c.loop-entry.entry-index c.args.entries.now),
  length-take c.loop-entry.entry-index c.args.entries.now,
  c.requires.few,
)

more : (c : goal.Joined-entry) → take (c.loop-entry.entry-index + 1) c.args.entries.now
    ≡ take c.loop-entry.entry-index c.args.entries.now ++ c.entry-item.result ∷ []
more c = take_more c.args.entries.now c.loop-entry.entry-index c.entry-item.result c.loop-entry-test.true
    ∙ ap (λ (e : Entry). take c.loop-entry.entry-index c.args.entries.now ++ e ∷ []) (sym c.entry-item.is)

pub loop-entry-preserved : goal.loop-entry-preserved
loop-entry-preserved c = record {
  counts = elim c.match-entry.branch [
    | in-Msg+then-sender-counts w ↦
        counted_message c.loop-entry.counts c.match-entry.counts _ _ c.entry-item.result w.in-Msg.sender
        w.from-sender.result w.in-Msg.index w.in-Msg.bytes c.loop-entry.invariant.counts
        (more c) w.in-Msg.is w.from-sender.ensures w.if-sender-counts.true w.counts-is
    | in-Msg+else-sender-counts w ↦
        passed_message c.loop-entry.counts c.match-entry.counts _ _ c.entry-item.result w.in-Msg.sender
        w.from-sender.result w.in-Msg.index w.in-Msg.bytes c.loop-entry.invariant.counts
        (more c) w.in-Msg.is w.from-sender.ensures w.if-sender-counts.false w.counts-is
    | in_default w ↦ counted_view c.loop-entry.counts c.match-entry.counts _ _ c.entry-item.result
        w.in_default.field-0 w.in_default.field-1 w.in_default.field-2
        c.loop-entry.invariant.counts (more c) w.in_default.is w.counts-is
  ];
  long = omega (arith, c.match-entry.auto.counts, c.loop-entry.invariant.long);
}

pub returns : goal.returns
returns c s l = c.loop-entry.invariant.counts s (omega (arith, l, c.loop-entry.auto.counts))
    ∙ ap (λ (es : List Entry). length (messages_from s es))
    (take_all c.loop-entry.entry-index c.args.entries.now c.loop-entry-test.false)
