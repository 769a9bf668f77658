use Rattle.std.{specs.Prelude.Option, proofs.Common.List}
use Rattle.dr_log.specs.State.{LogState}
use Rattle.dr_served.specs.Served.{AreReady, HaveSamePlaces, HaveServed}
use Rattle.dr_sim.proofs.Turns.{IsInRound}
use Rattle.dr_sim.proofs.simulation.Simulation.take_round.Given as goal

abbrev pub ghost-take_turn_of : goal.ghost-take_turn_of
ghost-take_turn_of g a = g.group

abbrev pub invariant-loop-m : goal.invariant-loop-m
invariant-loop-m g l = record {
  round : IsInRound g.W.Watcher.sees l.fn.watcher l.watcher g.group l.m l.fn.self l.self;
  ready : AreReady l.logs l.self.members;
  places : HaveSamePlaces l.fn.logs l.logs;
  served : (bases : List (Option (LogState g.row.D.Denot)))
      → HaveServed g.D.Disk.told g.D.Disk.faults bases l.fn.logs l.fn.self.members
      → HaveServed g.D.Disk.told g.D.Disk.faults bases l.logs l.self.members;
}
