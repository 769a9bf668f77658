use Rattle.std.{specs.List.range_with_len, proofs.Common.{rules, sym, ◌∙◌, ◌≡◌, length, subst, arith}}
use Rattle.dr_served.proofs.Served.{places_both, places_same}
use Rattle.dr_sim.proofs.Turns.{HasTurns, round_begins, round_ends, round_goes_on, round_passes}
use Rattle.dr_sim.proofs.simulation.Simulation.take_round.Goals.{then-not-has_ended, else-not-has_ended}
use Rattle.dr_sim.proofs.simulation.Simulation.take_round.Goals as goal

pub loop-m-init : goal.loop-m-init
loop-m-init g c = record {
  round = round_begins g.W.Watcher.sees c.args.watcher.now g.group c.args.self.now c.requires.1.1.1.0;
  ready = c.requires.1.1.1.1;
  places = places_same c.args.logs.now;
  served = λ bases served. served;
}

pub take_turn_of-requires-send-D : goal.take_turn_of-requires-send-D
take_turn_of-requires-send-D g c = λ ks within. (
  within.0,
  (
    within.1,
    (
      search rules,
      (
        c.loop-m.invariant.round.sound,
        (
          sym c.has_ended.ensures ∙ c.if-not-has_ended.true,
          (
            omega (
              arith,
              c.loop-m.invariant.ready.all,
              c.loop-m.invariant.round.sound.form.all,
              c.loop-m-test.true,
              c.len-m-end.ensures,
              c.requires.1.1.1.0.form.all,
            ),
            c.loop-m.invariant.ready,
          ),
        ),
      ),
    ),
  ),
)

pub loop-m-preserved : goal.loop-m-preserved
loop-m-preserved g c = elim c.if-not-has_ended.branch [
  | then-not-has_ended w ↦ rw (w.self-is, w.logs-is, w.watcher-is) (record {
    round = round_goes_on w.take_turn_of.new.watcher g.group c.loop-m.m c.args.self.now c.loop-m.self
        w.take_turn_of.new.self c.loop-m.invariant.round
        (sym c.has_ended.ensures ∙ w.if-not-has_ended.true) w.take_turn_of.ensures.took;
    ready = w.take_turn_of.ensures.ready;
    places = places_both c.args.logs.now c.loop-m.logs w.take_turn_of.new.logs c.loop-m.invariant.places
        w.take_turn_of.ensures.places;
    served = λ bases served. w.take_turn_of.ensures.served bases (c.loop-m.invariant.served bases served);
  })
  | else-not-has_ended w ↦ rw (w.self-is, w.logs-is, w.watcher-is) (record {
    round = round_passes g.group c.loop-m.m c.args.self.now c.loop-m.self c.loop-m.invariant.round
        (sym c.has_ended.ensures ∙ w.if-not-has_ended.false);
    ready = c.loop-m.invariant.ready;
    places = c.loop-m.invariant.places;
    served = c.loop-m.invariant.served;
  })
]

pub returns-clause-falls : goal.returns-clause-falls
returns-clause-falls g c = λ someone. round_ends g.group c.loop-m.m c.args.self.now c.loop-m.self
    c.loop-m.invariant.round (omega arith) someone

pub returns-clause-turns : goal.returns-clause-turns
returns-clause-turns g c =
    let all : c.loop-m.m ≡ length c.args.self.now.members = omega arith in
    subst (λ n. HasTurns g.W.Watcher.sees c.args.watcher.now c.loop-m.watcher (range_with_len 0 n)
    c.args.self.now c.loop-m.self) all c.loop-m.invariant.round.turns
