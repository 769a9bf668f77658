use Rattle.std.proofs.Common.{◌≡◌, ◌+◌, ◌≤◌, ◌∙◌, All, List, ℕ, ap, arith, length, subst, sym}
use Rattle.std.proofs.lemmas.List.{length-map, Elements.All-map}
use Rattle.dr_entry.specs.declared.{end.AgeEnd.AgeEnd, limits.TheConstants.MAX_MESSAGES}
use Rattle.dr_script.specs.Ranges.{HasRanges}
use Rattle.dr_senders.{specs.Senders.Lists, proofs.Growth.grown_length}
use Rattle.dr_live.specs.Live.{AreReadyFor, AreUpTo, HasLived, calm_yard, plan_with}
use Rattle.dr_live.proofs.{Course.{ready_grown, ready_next}, Delivering.lived, Growing.lists_fit}
use Rattle.dr_live.proofs.live.run_live.Goals as goal

pub loop-init : goal.loop-init
loop-init g c =
    let apps = c.args.apps.items in
    let left = g.A.App.left in
    let begun = c.in_ok-senders.ensures in
    record {
      given = begun.given;
      all = omega (arith, begun.all, ap (λ (l : Lists). length l) begun.given, length-map apps left, c.requires.apps);
      count = ap length c.in_ok-group.ensures.none;
      ready = c.in_ok-group.ensures.ready c.args.plan.now c.in_ok-senders.senders.taken;
    }

pub run_age-requires-clause-ranges : goal.run_age-requires-clause-ranges
run_age-requires-clause-ranges g c κs within = lists_fit c.args.plan.now c.in_ok-lists.lists c.requires.plan
    (ap (λ (l : Lists). length l) c.in_ok-lists.ensures.same
    ∙ (grown_length c.loop.senders.taken c.take.new.self.taken c.take.ensures.grown ∙ c.loop.invariant.all))
    c.in_ok-lists.ensures.few c.in_ok-lists.ensures.fit

pub run_age-requires-clause-few : goal.run_age-requires-clause-few
run_age-requires-clause-few g c κs within = omega (arith, c.loop.invariant.count, c.loop-test.true, c.requires.rounds)

pub run_age-requires-clause-ready : goal.run_age-requires-clause-ready
run_age-requires-clause-ready g c κs within =
    let ages = c.loop.group.ages.items in
    let yard = calm_yard c.loop.group.yard in
    subst (λ (l : Lists). AreReadyFor c.args.plan.now l ages yard) (sym c.in_ok-lists.ensures.same)
    (ready_grown c.args.plan.now c.loop.senders.taken c.take.new.self.taken ages yard c.loop.invariant.ready
    c.take.ensures.grown)

pub loop-preserved : goal.loop-preserved
loop-preserved g c =
    let ages = c.run_age.new.self.ages.items in
    let yard = calm_yard c.run_age.new.self.yard in
    record {
      given = c.take.ensures.given ∙ c.loop.invariant.given;
      all = grown_length c.loop.senders.taken c.take.new.self.taken c.take.ensures.grown ∙ c.loop.invariant.all;
      count = omega (arith, c.in_ok-run_age.ensures.more, c.loop.invariant.count);
      ready = ready_next c.args.plan.now c.take.new.self.taken ages yard
          (subst (λ (l : Lists). AreUpTo c.args.plan.now l ages yard) c.in_ok-lists.ensures.same
          c.in_ok-run_age.ensures.up);
    }

pub finish-requires-clause-few : goal.finish-requires-clause-few
finish-requires-clause-few g c κs within =
    let few : List (List ℕ) → Type 0 = λ list. length list ≤ MAX_MESSAGES in
    subst (λ (l : Lists). All few l) (sym c.loop.invariant.given)
    (All-map few g.A.App.left c.args.apps.items c.requires.few)

pub run_age-requires-2-clause-ranges : goal.run_age-requires-2-clause-ranges
run_age-requires-2-clause-ranges g c κs within =
    let few : List (List ℕ) → Type 0 = λ list. length list ≤ MAX_MESSAGES in
    let pushed = c.in_ok-pushed.ensures in
    subst (λ (l : Lists). HasRanges (plan_with c.args.plan.now l)) (sym (c.in_ok-all.ensures ∙ c.as_slice.ensures))
    (lists_fit c.args.plan.now c.in_ok-pushed.pushed c.requires.plan
    (grown_length c.loop.senders.taken c.in_ok-pushed.pushed pushed.grown ∙ c.loop.invariant.all)
    (subst (λ (l : Lists). All few l) (sym (pushed.all ∙ c.loop.invariant.given))
    (All-map few g.A.App.left c.args.apps.items c.requires.few)) pushed.fit)

pub run_age-requires-2-clause-few : goal.run_age-requires-2-clause-few
run_age-requires-2-clause-few g c κs within =
    omega (arith, c.loop.invariant.count, c.loop.auto.counter-end, c.requires.rounds)

pub run_age-requires-2-clause-ready : goal.run_age-requires-2-clause-ready
run_age-requires-2-clause-ready g c κs within =
    let ages = c.loop.group.ages.items in
    let yard = calm_yard c.loop.group.yard in
    subst (λ (l : Lists). AreReadyFor c.args.plan.now l ages yard) (sym (c.in_ok-all.ensures ∙ c.as_slice.ensures))
    (ready_grown c.args.plan.now c.loop.senders.taken c.in_ok-pushed.pushed ages yard c.loop.invariant.ready
    c.in_ok-pushed.ensures.grown)

pub returns-clause-pushed : goal.returns-clause-pushed
returns-clause-pushed g c = c.in_ok-pushed.ensures.all ∙ c.loop.invariant.given

pub returns-clause-lived : goal.returns-clause-lived
returns-clause-lived g c =
    let plan = c.args.plan.now in
    let pushed = c.in_ok-pushed.pushed in
    let ages = c.run_age-2.new.self.ages.items in
    let yard = calm_yard c.run_age-2.new.self.yard in
    let last = c.in_ok-run_age-2.ensures in
    let up = subst (λ (l : Lists). AreUpTo plan l ages yard) (c.in_ok-all.ensures ∙ c.as_slice.ensures) last.up in
    let end : c.loop.counter ≡ c.args.rounds = omega (arith, c.loop.auto.counter-end, c.loop-test.false) in
    let count : length ages ≡ c.args.rounds + 1 = omega (arith, last.more, c.loop.invariant.count, end) in
    subst (λ (all : List AgeEnd). HasLived plan c.args.rounds pushed all) (sym c.into_ages.ensures)
    (lived plan c.args.rounds pushed ages yard c.requires.plan c.requires.rounds count up)
