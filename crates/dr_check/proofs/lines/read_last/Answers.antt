use Rattle.std.{specs.Bool.then_some, proofs.Common.{ap, ◌∙◌}}
use Rattle.dr_entry.proofs.ListFacts.{some_where}
use Rattle.dr_check.specs.{Lines.IsLineText, declared.line.Line.{Line, TheVariants.Last}}
use Rattle.dr_check.proofs.LastFields.{last_of, of_last}
use Rattle.dr_check.proofs.lines.read_last.Goals as goal

pub returns-clause-some : goal.returns-clause-some
returns-clause-some c =
    some_where (λ (l : Line). IsLineText l c.args.bytes.now) _ Last c.then_some.result c.then_some.ensures
    (λ t. last_of c.args.bytes.now (c.in_ok-is_last.ensures.0 t))

pub returns-clause-only : goal.returns-clause-only
returns-clause-only c is = c.then_some.ensures
    ∙ ap (λ b. then_some b Last) (c.in_ok-is_last.ensures.1 (of_last c.args.bytes.now is.0 is.1 is.2))
