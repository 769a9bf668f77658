use Rattle.std.proofs.Common.{List, ℕ, IfOk, Option, Some, string_bytes, subst, sym}
use Rattle.dr_tools.specs.SweepAnswer.{IsSaidOfOutcome}
use Rattle.dr_tools.proofs.sweeps.top.answer_to_outcome.Goals as goal

pub returns-in-Some-clause-answer : goal.returns-in-Some-clause-answer
returns-in-Some-clause-answer g c = subst (λ (wanted : Option (List ℕ)). IfOk c.answer_to_wanted.result
    (λ a. IsSaidOfOutcome wanted c.args.task.now c.args.script.now (string_bytes a.text, a.status)))
    (sym c.in-Some.is) (subst (λ (line : List ℕ). IfOk c.answer_to_wanted.result
    (λ a. IsSaidOfOutcome (Some line) c.args.task.now c.args.script.now (string_bytes a.text, a.status)))
    c.as_str.ensures c.answer_to_wanted.ensures.answer)

pub returns-in-None-clause-answer : goal.returns-in-None-clause-answer
returns-in-None-clause-answer g c = subst (λ (wanted : Option (List ℕ)). IfOk c.answer_to_runs.result
    (λ a. IsSaidOfOutcome wanted c.args.task.now c.args.script.now (string_bytes a.text, a.status)))
    (sym c.in-None.is) c.answer_to_runs.ensures.answer
