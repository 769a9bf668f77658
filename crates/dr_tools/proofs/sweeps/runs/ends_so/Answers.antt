use Rattle.std.proofs.{Common.{◌∙◌, rules, subst, sym}, lemmas.Result.IfOk-weaker}
use Rattle.dr_ages.specs.{Ages.HaveSomebodyPrompt, declared.part.Part.Part}
use Rattle.dr_tools.proofs.Simulating.{ends_by}
use Rattle.dr_tools.proofs.sweeps.runs.ends_so.Goals as goal

pub watch_next_with_progress-outcome-requires-clause-some : goal.watch_next_with_progress-outcome-requires-clause-some
watch_next_with_progress-outcome-requires-clause-some g c κs h =
    subst (λ (p : Part). HaveSomebodyPrompt c.args.script.now p) (sym c.with_late-part.ensures) c.requires.some

pub returns-in-Some-clause-outcome : goal.returns-in-Some-clause-outcome
returns-in-Some-clause-outcome g c =
    let outcome = c.watch_next_with_progress-outcome.result in
    IfOk-weaker c.is_wanted.result _ _
    (λ shows is. ends_by c.args.script.now c.args.late c.with_late-part.result outcome.ages outcome.stop outcome.last
    c.in-Some.last c.args.wanted.now shows c.with_late-part.ensures c.watch_next_with_progress-outcome.ensures.ran c.in-Some.is
    (is ∙ search rules)) c.is_wanted.ensures
