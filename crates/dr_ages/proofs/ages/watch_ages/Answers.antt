use Rattle.std.{specs.Prelude.{None, Some}, proofs.lemmas.Option.same_Some}
use Rattle.std.proofs.Common.{◌≡◌, ◌∙◌, refl, sym, ap, subst, arith, rules, List, [], ◌∷◌, ◌++◌, length, length-append}
use Rattle.dr_entry.specs.declared.end.AgeEnd.{AgeEnd}
use Rattle.dr_yard.specs.Yards.{YardState, state_by}
use Rattle.dr_ages.specs.{Ages.AreAges, Runs.IsRunOf, Watched.AreWatched, declared.stop.Stop.TheVariants.OutOfMemory}
use Rattle.dr_ages.proofs.{Chain.{ages_more, none_kept}, Lacking.lacked_first, Runs.a_run, Watching.watched_more}
use Rattle.dr_ages.proofs.ages.watch_ages.Goals as goal

pub loop-nth-preserved : goal.loop-nth-preserved
loop-nth-preserved g c =
    let items : c.push.new.self.items ≡ c.loop-nth.ages.items ++ c.in-Ok-run_age.age ∷ [] = search rules in
    let part = c.args.part.now in
    let before : YardState = state_by g.Y.Yard.told g.Y.Yard.faults c.args.yard.now in
    let mid : YardState = state_by g.Y.Yard.told g.Y.Yard.faults c.loop-nth.yard in
    let after : YardState = state_by g.Y.Yard.told g.Y.Yard.faults c.run_age.new.yard in (
      ap length items ∙ (length-append c.loop-nth.ages.items (c.in-Ok-run_age.age ∷ [])
          ∙ omega (arith, c.loop-nth.invariant.0)),
      search rules,
      c.in-Ok-run_age.ensures.here,
      subst (λ (ages : List AgeEnd). AreAges c.args.script.now part c.args.mode 0 before ages after) (sym items)
          (ages_more c.args.script.now part c.args.mode 0 c.loop-nth.nth before c.loop-nth.ages.items mid after
          c.in-Ok-run_age.age (omega (arith, c.loop-nth.invariant.0)) c.loop-nth.invariant.3
          c.in-Ok-run_age.ensures.age),
      subst (λ (ages : List AgeEnd). AreWatched g.W.Watcher.opens g.W.Watcher.sees g.W.Watcher.closes
          c.args.mode c.args.script.now part 0 ages c.args.watcher.now c.run_age.new.watcher) (sym items)
          (watched_more g.W.Watcher.opens g.W.Watcher.sees g.W.Watcher.closes c.args.mode c.args.script.now part 0
          c.loop-nth.nth c.loop-nth.ages.items c.in-Ok-run_age.age c.args.watcher.now c.loop-nth.watcher
          c.run_age.new.watcher (omega (arith, c.loop-nth.invariant.0)) c.loop-nth.invariant.4
          c.in-Ok-run_age.ensures.watched),
    )

pub returns-in_default-clause-run : goal.returns-in_default-clause-run
returns-in_default-clause-run g c =
    let part = c.args.part.now in
    let before : YardState = state_by g.Y.Yard.told g.Y.Yard.faults c.args.yard.now in
    let kept = none_kept c.args.script.now part.missing before c.requires.ranges.group.some_member in
    subst (λ (ages : List AgeEnd). IsRunOf c.args.script.now part c.args.mode before before ages (Some OutOfMemory))
    (sym (c.of.ensures ∙ c.new.ensures.items))
    (a_run c.args.script.now part c.args.mode before [] before before (Some OutOfMemory) kept.starts
    c.requires.ranges refl (omega (arith, c.requires.ranges.some_age), tt, kept.chosen, kept.passes, tt) (kept, refl)
    (λ tell other. absurd (other refl))
    (λ same. lacked_first c.args.script.now part c.args.mode before c.requires.ranges.group.some_member))

pub returns-in-Err-clause-run : goal.returns-in-Err-clause-run
returns-in-Err-clause-run g c =
    let part = c.args.part.now in
    let before : YardState = state_by g.Y.Yard.told g.Y.Yard.faults c.args.yard.now in
    let last : YardState = state_by g.Y.Yard.told g.Y.Yard.faults c.loop-nth.yard in
    let after : YardState = state_by g.Y.Yard.told g.Y.Yard.faults c.run_age.new.yard in
    subst (λ (ages : List AgeEnd). IsRunOf c.args.script.now part c.args.mode before after ages (Some c.in-Err.stop))
    (sym c.of-in-Err.ensures) (a_run c.args.script.now part c.args.mode before c.loop-nth.ages.items last after
    (Some c.in-Err.stop) c.in-Err.ensures.kept.starts c.requires.ranges c.loop-nth.invariant.3 (
      omega (arith, c.loop-nth.invariant.0, c.loop-nth-test.true),
      c.in-Err.ensures.stopped,
      c.in-Err.ensures.kept.chosen,
      c.in-Err.ensures.kept.passes,
      c.in-Err.ensures.names,
    ) (c.in-Err.ensures.kept, refl) c.in-Err.ensures.tried
    (λ same. c.in-Err.ensures.lacked (same_Some c.in-Err.stop OutOfMemory same)))

pub returns-clause-run : goal.returns-clause-run
returns-clause-run g c =
    let part = c.args.part.now in
    let before : YardState = state_by g.Y.Yard.told g.Y.Yard.faults c.args.yard.now in
    let last : YardState = state_by g.Y.Yard.told g.Y.Yard.faults c.loop-nth.yard in
    subst (λ (ages : List AgeEnd). IsRunOf c.args.script.now part c.args.mode before last ages None)
    (sym c.of-2.ensures)
    (a_run c.args.script.now part c.args.mode before c.loop-nth.ages.items last last None [] c.requires.ranges
    c.loop-nth.invariant.3
    (omega (arith, c.loop-nth.invariant.0, c.loop-nth-test.false, c.loop-nth.auto.nth-end), refl, refl) tt tt
    (λ same. absurd (cc (same))))

pub returns-in_default-clause-watched : goal.returns-in_default-clause-watched
returns-in_default-clause-watched g c =
    subst (λ (ages : List AgeEnd). AreWatched g.W.Watcher.opens g.W.Watcher.sees g.W.Watcher.closes
    c.args.mode c.args.script.now c.args.part.now 0 ages c.args.watcher.now c.args.watcher.now)
    (sym (c.of.ensures ∙ c.new.ensures.items)) refl

pub returns-in-Err-clause-watched : goal.returns-in-Err-clause-watched
returns-in-Err-clause-watched g c =
    subst (λ (ages : List AgeEnd). AreWatched g.W.Watcher.opens g.W.Watcher.sees g.W.Watcher.closes
    c.args.mode c.args.script.now c.args.part.now 0 ages c.args.watcher.now c.run_age.new.watcher)
    (sym c.of-in-Err.ensures)
    (subst (λ (w : g.row.W.Denot). AreWatched g.W.Watcher.opens g.W.Watcher.sees g.W.Watcher.closes
    c.args.mode c.args.script.now c.args.part.now 0 c.loop-nth.ages.items c.args.watcher.now w)
    (sym c.in-Err.ensures.untold) c.loop-nth.invariant.4)

pub returns-clause-watched : goal.returns-clause-watched
returns-clause-watched g c =
    subst (λ (ages : List AgeEnd). AreWatched g.W.Watcher.opens g.W.Watcher.sees g.W.Watcher.closes
    c.args.mode c.args.script.now c.args.part.now 0 ages c.args.watcher.now c.loop-nth.watcher)
    (sym c.of-2.ensures) c.loop-nth.invariant.4
