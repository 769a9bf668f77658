use Rattle.std.proofs.Common.{◌∙◌, IfOk, subst}
use Rattle.dr_tools.specs.Outcomes.{TextEndsSo}
use Rattle.dr_tools.proofs.sweeps.runs.whole_ends_so.Goals as goal

pub returns-clause-ends : goal.returns-clause-ends
returns-clause-ends g c = subst (λ text. IfOk c.text_ends_so.result (TextEndsSo text c.args.late c.args.wanted.now))
    (c.as_str.ensures.value ∙ c.in_ok-text.ensures) c.text_ends_so.ensures.outcome
