use Rattle.std.proofs.Common.{◌≡◌, ◌∙◌, sym, subst, arith}
use Rattle.dr_quorum.proofs.Paths.{IsWalked, ended_walk, lacks_walk, last_walk, none_walked, one_walked}
use Rattle.dr_quorum.proofs.path.find_lacking.Goals as goal

pub loop-view-init : goal.loop-view-init
loop-view-init c = none_walked c.args.lists.now c.args.roster c.args.age c.args.first

pub returns-in-Some-clause-some : goal.returns-in-Some-clause-some
returns-in-Some-clause-some c = lacks_walk c.args.lists.now c.args.roster c.args.age c.args.first c.loop-view.view
    c.loop-view.members c.in-Some.have c.in-Some.need c.loop-view.invariant c.in-Some.ensures.some

pub returns-in-None-clause-none : goal.returns-in-None-clause-none
returns-in-None-clause-none c = ended_walk c.args.lists.now c.args.roster c.args.age c.args.first c.loop-view.view
    c.loop-view.members c.loop-view-test.true c.loop-view.invariant c.in_default.ensures.none
    (sym c.in-None.is ∙ c.next_view.ensures)

pub loop-view-preserved : goal.loop-view-preserved
loop-view-preserved c = one_walked c.args.lists.now c.args.roster c.args.age c.args.first c.loop-view.view
    c.loop-view.members c.in-Some-next_view.next c.loop-view-test.true c.loop-view.invariant
    c.in_default.ensures.none (sym c.in-Some-next_view.is ∙ c.next_view.ensures)

pub returns-in-Some-lacking-clause-some : goal.returns-in-Some-lacking-clause-some
returns-in-Some-lacking-clause-some c = lacks_walk c.args.lists.now c.args.roster c.args.age c.args.first 255
    c.loop-view.members c.in-Some-lacking.have c.in-Some-lacking.need walked c.in-Some-lacking.ensures.some
  where
    last : c.loop-view.view ≡ 255
    last = omega (arith, c.loop-view-test.false, c.loop-view.auto.view-end)

    walked : IsWalked c.args.lists.now c.args.roster c.args.age c.args.first 255 c.loop-view.members
    walked = subst (λ k. IsWalked c.args.lists.now c.args.roster c.args.age c.args.first k c.loop-view.members)
        last c.loop-view.invariant

pub returns-in-None-lacking-clause-none : goal.returns-in-None-lacking-clause-none
returns-in-None-lacking-clause-none c = last_walk c.args.lists.now c.args.roster c.args.age c.args.first
    c.loop-view.members walked c.in-None-lacking.ensures.none
  where
    last : c.loop-view.view ≡ 255
    last = omega (arith, c.loop-view-test.false, c.loop-view.auto.view-end)

    walked : IsWalked c.args.lists.now c.args.roster c.args.age c.args.first 255 c.loop-view.members
    walked = subst (λ k. IsWalked c.args.lists.now c.args.roster c.args.age c.args.first k c.loop-view.members)
        last c.loop-view.invariant
