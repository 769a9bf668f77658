use Rattle.std.proofs.Common.{◌≡◌, Some, rules, subst, sym}
use Rattle.dr_ages.specs.{Ages.HaveSomebodyPrompt, declared.{mode.Mode.TheVariants.Sim, part.Part.Part}}
use Rattle.dr_outcome.{specs.Outcome.IsMemoryRun, proofs.OutcomeKinds.run_behind}
use Rattle.dr_tools.{specs.Summary.AreAgreed, proofs.Agreed.agreed_run}
use Rattle.dr_tools.proofs.summary.top.answer_to_run.Goals as goal

pub watch_with_progress-ages-requires-clause-some : goal.watch_with_progress-ages-requires-clause-some
watch_with_progress-ages-requires-clause-some g c κs h =
    subst (λ (p : Part). HaveSomebodyPrompt c.args.script.now p) (sym c.with_late-part.ensures) c.requires.some

pub summary_by-requires-clause-agreed : goal.summary_by-requires-clause-agreed
summary_by-requires-clause-agreed g c =
    let outcome = c.watch_with_progress-ages.result in
    let is : outcome.last ≡ Some c.in-Some.last = search rules in
    let run = run_behind c.args.script.now c.with_late-part.result outcome.ages outcome.stop outcome.last
    c.in-Some.last c.watch_with_progress-ages.ensures.ran is in
    subst AreAgreed (search rules)
    (agreed_run c.args.script.now c.with_late-part.result Sim outcome.ages outcome.stop run.0)

pub returns-clause-answer : goal.returns-clause-answer
returns-clause-answer g c =
    let outcome = c.watch_with_progress-ages.result in
    let is : outcome.last ≡ Some c.in-Some.last = search rules in
    let run = run_behind c.args.script.now c.with_late-part.result outcome.ages outcome.stop outcome.last
    c.in-Some.last c.watch_with_progress-ages.ensures.ran is in
    record {
      ages = outcome.ages;
      stop = outcome.stop;
      run = subst (λ (p : Part). IsMemoryRun c.args.script.now p Sim outcome.ages outcome.stop)
          c.with_late-part.ensures run.0;
      last = c.in-Some.last;
      line = run.1;
      summary = search rules;
      due = search rules;
    }
