use Rattle.std.proofs.Common.{sym, ◌∙◌}
use Rattle.dr_check.{specs.declared.line.Line.TheVariants.Entry as EntryLine, proofs.LineFields.chosen_some}
use Rattle.dr_check.proofs.lines.entry_if_spelled.Goals as goal

pub returns-clause-some : goal.returns-clause-some
returns-clause-some c fits = chosen_some (EntryLine c.args.entry) c.as_str.result.now c.args.bytes.now c.chosen.result
    (fits, c.as_str.ensures.value ∙ c.in_ok-text.ensures) c.chosen.ensures.some

pub returns-clause-only : goal.returns-clause-only
returns-clause-only c is = c.chosen.ensures.yes (c.as_str.ensures.value ∙ (c.in_ok-text.ensures ∙ sym is.1))
