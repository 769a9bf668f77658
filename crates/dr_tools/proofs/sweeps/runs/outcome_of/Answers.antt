use Rattle.std.proofs.{Common.{◌∙◌, rules, subst, sym}, lemmas.Result.IfOk-weaker}
use Rattle.dr_ages.specs.{Ages.HaveSomebodyPrompt, declared.part.Part.Part}
use Rattle.dr_tools.proofs.Simulating.{comes_to}
use Rattle.dr_tools.proofs.sweeps.runs.outcome_of.Goals as goal

pub watch_next_with_progress-outcome-requires-clause-some : goal.watch_next_with_progress-outcome-requires-clause-some
watch_next_with_progress-outcome-requires-clause-some g c κs h =
    subst (λ (p : Part). HaveSomebodyPrompt c.args.script.now p) (sym c.with_late-part.ensures) c.requires.some

pub returns-in-Some-clause-outcome : goal.returns-in-Some-clause-outcome
returns-in-Some-clause-outcome g c =
    let outcome = c.watch_next_with_progress-outcome.result in
    IfOk-weaker c.line_of.result _ _
    (λ line is. comes_to c.args.script.now c.args.late c.with_late-part.result outcome.ages outcome.stop outcome.last
    c.in-Some.last line c.with_late-part.ensures c.watch_next_with_progress-outcome.ensures.ran c.in-Some.is (is ∙ search rules))
    c.line_of.ensures
