use Rattle.dr_sim.proofs.simulation.Simulation.take_turn_of.Given as goal

abbrev pub ghost-take_turn : goal.ghost-take_turn
ghost-take_turn g a = g.group
