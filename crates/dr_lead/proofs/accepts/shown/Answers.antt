use Rattle.std.proofs.Common.{◌≡◌, ℕ, sym, ◌∙◌}
use Rattle.dr_history.proofs.Histories.{filled_more, filled_past}
use Rattle.dr_words.specs.Packing.{accept_value}
use Rattle.dr_lead.{specs.Accepts.trim_word, proofs.accepts.shown.Goals.{then-has, else-has}}
use Rattle.dr_lead.proofs.accepts.shown.Goals as goal

pub loop-sender-preserved : goal.loop-sender-preserved
loop-sender-preserved c = elim c.if-has.branch [
  | then-has w ↦ rw (w.trim-is, w.from.ensures)
      (filled_more IsShown c.args.members c.loop-sender.sender w.trim_shown.result c.loop-sender.trim
      c.loop-sender.invariant c.loop-sender-test.true (sym c.has.ensures ∙ w.if-has.true) w.trim_shown.ensures)
  | else-has w ↦ rw w.trim-is
      (filled_past IsShown c.args.members c.loop-sender.sender c.loop-sender.trim c.loop-sender.invariant
      (sym c.has.ensures ∙ w.if-has.false))
]
  where
    IsShown : ℕ → ℕ → Type 0
    IsShown s trim = trim ≡ accept_value (trim_word c.args.rows.now c.args.row s)
