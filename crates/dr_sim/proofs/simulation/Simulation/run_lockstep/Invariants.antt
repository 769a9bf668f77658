use Rattle.std.{specs.Prelude.Option, proofs.Common.List}
use Rattle.dr_log.specs.State.{LogState}
use Rattle.dr_served.specs.Served.{AreReady, HaveSamePlaces, HaveServed}
use Rattle.dr_play.specs.Sound.{IsSound}
use Rattle.dr_sim.{specs.Sound.all_left, proofs.Turns.HasRounds}
use Rattle.dr_sim.proofs.simulation.Simulation.run_lockstep.Given as goal

abbrev pub ghost-take_round : goal.ghost-take_round
ghost-take_round g a = g.group

abbrev pub invariant-loop-self : goal.invariant-loop-self
invariant-loop-self g l = record {
  sound : IsSound g.group l.self;
  rounds : HasRounds g.W.Watcher.sees l.fn.watcher l.watcher l.fn.self l.self;
  ready : AreReady l.logs l.self.members;
  places : HaveSamePlaces l.fn.logs l.logs;
  served : (bases : List (Option (LogState g.row.D.Denot)))
      → HaveServed g.D.Disk.told g.D.Disk.faults bases l.fn.logs l.fn.self.members
      → HaveServed g.D.Disk.told g.D.Disk.faults bases l.logs l.self.members;
}

abbrev pub decreases-loop-self : goal.decreases-loop-self
decreases-loop-self g l = all_left l.self
