use Rattle.std.proofs.Common.{◌∙◌, sym, true≢false}
use Rattle.dr_served.proofs.Served.{places_both, places_same}
use Rattle.dr_sim.proofs.Turns.{no_rounds, rounds_end, rounds_go_on}
use Rattle.dr_sim.proofs.simulation.Simulation.run_lockstep.Goals as goal

pub loop-self-init : goal.loop-self-init
loop-self-init g c = record {
  sound = c.requires.1.1.1.0;
  rounds = no_rounds g.W.Watcher.sees c.args.watcher.now c.args.self.now;
  ready = c.requires.1.1.1.1;
  places = places_same c.args.logs.now;
  served = λ bases served. served;
}

pub loop-self-preserved : goal.loop-self-preserved
loop-self-preserved g c = record {
  sound = c.take_round.ensures.sound;
  rounds = rounds_go_on c.take_round.new.watcher c.args.self.now c.loop-self.self c.take_round.new.self
      c.loop-self.invariant.rounds c.take_round.ensures.turns;
  ready = c.take_round.ensures.ready;
  places = places_both c.args.logs.now c.loop-self.logs c.take_round.new.logs c.loop-self.invariant.places
      c.take_round.ensures.places;
  served = λ bases served. c.take_round.ensures.served bases (c.loop-self.invariant.served bases served);
}

pub loop-self-smaller : goal.loop-self-smaller
loop-self-smaller g c = c.take_round.ensures.falls
    (λ ended. true≢false (sym (c.all_ended.ensures.1 ended) ∙ c.loop-self-test.true))

pub returns-clause-run : goal.returns-clause-run
returns-clause-run g c = rounds_end c.args.self.now c.loop-self.self c.loop-self.invariant.rounds
    (c.all_ended.ensures.0 c.loop-self-test.false)
