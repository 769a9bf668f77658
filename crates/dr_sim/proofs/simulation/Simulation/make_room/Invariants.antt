use Rattle.dr_play.proofs.LoggedMembers.{HasMadeRoom}
use Rattle.dr_sim.proofs.simulation.Simulation.make_room.Given as goal

abbrev pub invariant-loop-m : goal.invariant-loop-m
invariant-loop-m g l = HasMadeRoom g.D.Disk.told g.D.Disk.faults l.fn.self.members l.fn.logs l.logs l.m
