use Rattle.std.proofs.Common.{subst}
use Rattle.dr_ages.specs.{Ages.HaveSomebodyPrompt, declared.part.Part.Part}
use Rattle.dr_outcome.specs.Outcome.{AreAllLate}
use Rattle.dr_tools.proofs.SummaryAnswers.{run_if, unrun_if}
use Rattle.dr_tools.proofs.summary.top.answer_to_script.Goals as goal

pub answer_to_run-requires-clause-some : goal.answer_to_run-requires-clause-some
answer_to_run-requires-clause-some g c κs h =
    subst (λ (p : Part). HaveSomebodyPrompt c.args.script.now p) c.with_late-part.ensures c.if-are_all_late.ensures

pub returns-then-are_all_late-clause-answer : goal.returns-then-are_all_late-clause-answer
returns-then-are_all_late-clause-answer g c = unrun_if c.of_usage.result c.args.asked c.args.script.now
    (subst (λ (p : Part). AreAllLate c.args.script.now p) c.with_late-part.ensures c.if-are_all_late.ensures)
    c.of_usage.ensures

pub returns-clause-answer : goal.returns-clause-answer
returns-clause-answer g c =
    run_if c.answer_to_run.result c.args.asked c.args.script.now c.answer_to_run.ensures.answer
