use Rattle.std.proofs.Common.{◌≡◌, ◌∙◌, ap, sym, true}
use Rattle.dr_quote.{specs.Quote.is_clear, proofs.Texts.{hidden_raw, shown_clear}}
use Rattle.dr_quote.proofs.quoting.shown.Goals as goal

pub returns-in_default : goal.returns-in_default
returns-in_default c = hidden_raw c.args.bytes.now c.in_default.ensures.cases.0

pub returns-then-is_clear : goal.returns-then-is_clear
returns-then-is_clear c =
    let same = c.in-Ok.ensures.cases.0 in
    let clear : is_clear c.args.bytes.now ≡ true =
    ap is_clear (sym same) ∙ sym c.is_clear.ensures ∙ c.if-is_clear.true in
    (same, shown_clear c.args.bytes.now c.in-Ok.ensures.cases.1 clear)
