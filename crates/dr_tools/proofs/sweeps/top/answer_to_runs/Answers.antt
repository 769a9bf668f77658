use Rattle.std.proofs.Common.{IfOk, string_bytes, subst, sym}
use Rattle.dr_tools.specs.{SweepAnswer.IsSaidOfRuns, SweepWords.AreFit, declared.sweeps.words.Runs.Runs}
use Rattle.dr_tools.proofs.sweeps.top.answer_to_runs.Goals as goal

pub answer_to_variants-requires-clause-sound : goal.answer_to_variants-requires-clause-sound
answer_to_variants-requires-clause-sound g c κs h = subst AreFit c.in-BySeeds.is c.requires.fit

pub returns-in-BySeeds-clause-answer : goal.returns-in-BySeeds-clause-answer
returns-in-BySeeds-clause-answer g c = subst (λ (runs : Runs). IfOk c.answer_to_variants.result
    (λ a. IsSaidOfRuns runs c.args.task.now c.args.script.now (string_bytes a.text, a.status)))
    (sym c.in-BySeeds.is) c.answer_to_variants.ensures.answer

pub returns-in-ByCrashes-clause-answer : goal.returns-in-ByCrashes-clause-answer
returns-in-ByCrashes-clause-answer g c = subst (λ (runs : Runs). IfOk c.answer_to_crashes.result
    (λ a. IsSaidOfRuns runs c.args.task.now c.args.script.now (string_bytes a.text, a.status)))
    (sym c.in-ByCrashes.is) c.answer_to_crashes.ensures.answer
