use Rattle.std.proofs.Common.{List, ℕ, IfOk, Option, Some, string_bytes, subst, sym}
use Rattle.dr_tools.specs.SweepAnswer.{IsSaidOfWanted}
use Rattle.dr_tools.proofs.sweeps.top.answer_to_variants.Goals as goal

pub returns-in-Some-clause-answer : goal.returns-in-Some-clause-answer
returns-in-Some-clause-answer g c = subst (λ (wanted : Option (List ℕ)). IfOk c.shrink.result
    (λ a. IsSaidOfWanted wanted c.args.task.now.least c.args.variants.now c.args.task.now.late c.args.script.now
    (string_bytes a.text, a.status))) (sym c.in-Some.is) (subst (λ (line : List ℕ). IfOk c.shrink.result
    (λ a. IsSaidOfWanted (Some line) c.args.task.now.least c.args.variants.now c.args.task.now.late c.args.script.now
    (string_bytes a.text, a.status))) c.as_str.ensures c.shrink.ensures.answer)
