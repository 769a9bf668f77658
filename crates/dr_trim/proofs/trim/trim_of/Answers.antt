use Rattle.std.proofs.Common.{sym, ◌∙◌}
use Rattle.dr_history.proofs.Histories.{filled_more, filled_past}
use Rattle.dr_trim.{specs.Trims.IsLeastReceived, proofs.trim.trim_of.Goals.{then-has, else-has}}
use Rattle.dr_trim.proofs.trim.trim_of.Goals as goal

pub loop-sender-preserved : goal.loop-sender-preserved
loop-sender-preserved c = elim c.if-has.branch [
  | then-has w ↦ rw (w.trim-is, w.from.ensures)
      (filled_more (IsLeastReceived c.args.rows.now c.args.of) c.args.senders c.loop-sender.sender
      w.least_count.result c.loop-sender.trim c.loop-sender.invariant c.loop-sender-test.true
      (sym c.has.ensures ∙ w.if-has.true) w.least_count.ensures)
  | else-has w ↦ rw w.trim-is
      (filled_past (IsLeastReceived c.args.rows.now c.args.of) c.args.senders c.loop-sender.sender
      c.loop-sender.trim c.loop-sender.invariant (sym c.has.ensures ∙ w.if-has.false))
]
