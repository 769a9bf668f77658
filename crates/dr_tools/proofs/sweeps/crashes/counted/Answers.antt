use Rattle.std.proofs.Common.{◌∙◌, ap, length, rules, subst, sym}
use Rattle.dr_ages.specs.{Ages.{HaveSomebodyPrompt, all_with}, Watched.AreWatched, declared.mode.Mode.TheVariants.Sim}
use Rattle.dr_ages.specs.declared.part.Part.{Part}
use Rattle.dr_outcome.{specs.Outcome.IsMemoryRun, proofs.OutcomeKinds.run_behind}
use Rattle.dr_tools.{specs.Crashes.Counted, proofs.Crashes.{Closes, Opens, Sees, points_uncounted, points_watched}}
use Rattle.dr_tools.proofs.sweeps.crashes.counted.Goals as goal

pub watch_next_with_progress-outcome-requires-clause-some : goal.watch_next_with_progress-outcome-requires-clause-some
watch_next_with_progress-outcome-requires-clause-some g c κs h =
    subst (λ (p : Part). HaveSomebodyPrompt c.args.script.now p) (sym c.with_late-part.ensures) c.requires.some

pub returns-in-Some-clause-counted : goal.returns-in-Some-clause-counted
returns-in-Some-clause-counted g c =
    let o = c.watch_next_with_progress-outcome.result in
    let part = c.with_late-part.result in
    let run = run_behind c.args.script.now part o.ages o.stop o.last c.in-Some.field-0
    c.watch_next_with_progress-outcome.ensures.ran c.in-Some.is in
    record {
      ages = o.ages;
      stop = o.stop;
      run = subst (λ (p : Part). IsMemoryRun c.args.script.now p Sim o.ages o.stop) c.with_late-part.ensures run.0;
      end = c.watch_next_with_progress-outcome.new.watcher;
      watched = subst (λ (old : Counted). AreWatched Opens Sees Closes Sim c.args.script.now (all_with c.args.late) 0
          o.ages old c.watch_next_with_progress-outcome.new.watcher) c.in_ok-counter.ensures
          (subst (λ (p : Part). AreWatched Opens Sees Closes Sim c.args.script.now p 0 o.ages c.in_ok-counter.counter
          c.watch_next_with_progress-outcome.new.watcher) c.with_late-part.ensures c.watch_next_with_progress-outcome.ensures.watched);
      told = search rules;
    }

pub returns-in-Some-clause-turns : goal.returns-in-Some-clause-turns
returns-in-Some-clause-turns g c =
    let o = c.watch_next_with_progress-outcome.result in
    points_watched c.args.script.now c.with_late-part.result 0 o.ages c.in_ok-counter.counter
    c.watch_next_with_progress-outcome.new.watcher c.watch_next_with_progress-outcome.ensures.watched
    ∙ ap (λ (k : Counted). length k.points) c.in_ok-counter.ensures ∙ points_uncounted c.args.script.now c.args.member
