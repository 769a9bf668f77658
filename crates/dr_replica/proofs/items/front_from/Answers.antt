use Rattle.std.proofs.{Common.{sym, subst, ◌∙◌, arith, map, slice_index}, lemmas.List.length-map}
use Rattle.dr_history.{specs.Places.AllHeldBelow, proofs.{FrontLemmas.AllHeldBelow-more, Fronts.front_reached}}
use Rattle.dr_history.proofs.Places.{held_small}
use Rattle.dr_replica.proofs.items.front_from.Goals as goal

pub step-requires-clause-small : goal.step-requires-clause-small
step-requires-clause-small c =
    let small = held_small c.args.counts.now c.args.members.now c.loop-spot.spot.place c.requires.some
    (λ i. omega (arith, c.type_inv.counts i)) (sym c.is_held.ensures ∙ c.loop-spot-test.true) in
    omega (arith, small, c.requires.few)

pub loop-spot-smaller : goal.loop-spot-smaller
loop-spot-smaller c =
    let small = held_small c.args.counts.now c.args.members.now c.loop-spot.spot.place c.requires.some
    (λ i. omega (arith, c.type_inv.counts i)) (sym c.is_held.ensures ∙ c.loop-spot-test.true) in
    omega (arith, small, c.step.ensures.place)

pub loop-spot-preserved : goal.loop-spot-preserved
loop-spot-preserved c =
    let counts = map (slice_index c.args.counts.now) c.args.members.now in
    record {
      spot = c.step.ensures.spot;
      held = subst (AllHeldBelow counts) (sym c.step.ensures.place)
          (AllHeldBelow-more counts c.loop-spot.spot.place c.loop-spot.invariant.held
          (sym c.is_held.ensures ∙ c.loop-spot-test.true));
    }

pub returns-clause-front : goal.returns-clause-front
returns-clause-front c = front_reached (map (slice_index c.args.counts.now) c.args.members.now) c.loop-spot.spot.place
    (omega (arith, length-map c.args.members.now (slice_index c.args.counts.now), c.requires.some))
    c.loop-spot.invariant.held (sym c.is_held.ensures ∙ c.loop-spot-test.false)
