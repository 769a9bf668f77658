use Rattle.std.proofs.{Common.{inl, inr, subst}, lemmas.Result.IfOk-weaker}
use Rattle.dr_ages.specs.{Ages.HaveSomebodyPrompt, declared.part.Part.Part}
use Rattle.dr_outcome.specs.Outcome.{AreAllLate}
use Rattle.dr_tools.proofs.sweeps.top.answer_to_script.Goals as goal

pub answer_to_outcome-requires-clause-some : goal.answer_to_outcome-requires-clause-some
answer_to_outcome-requires-clause-some g c κs h =
    subst (λ (p : Part). HaveSomebodyPrompt c.args.script.now p) c.with_late.ensures c.if-are_all_late.ensures

pub returns-then-are_all_late-clause-answer : goal.returns-then-are_all_late-clause-answer
returns-then-are_all_late-clause-answer g c =
    let all = subst (λ (p : Part). AreAllLate c.args.script.now p) c.with_late.ensures c.if-are_all_late.ensures in
    IfOk-weaker c.of_usage.result _ _ (λ a said. inl (all, said)) c.of_usage.ensures

pub returns-clause-answer : goal.returns-clause-answer
returns-clause-answer g c = IfOk-weaker c.answer_to_outcome.result _ _ (λ a said. inr said) c.answer_to_outcome.ensures.answer
