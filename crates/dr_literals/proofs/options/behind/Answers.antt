use Rattle.std.proofs.Common.{ap, sym, ◌∙◌, ◌++◌}
use Rattle.dr_literals.proofs.Fronts.{stripped}
use Rattle.dr_literals.proofs.options.behind.Goals as goal

pub returns : goal.returns
returns c = stripped c.args.front.now c.args.word.now c.strip_prefix.result (λ none. none)
    (λ x is. is.1.1 ∙ ap (λ l. c.args.front.now ++ l) (sym is.2)) c.strip_prefix.ensures.cases
