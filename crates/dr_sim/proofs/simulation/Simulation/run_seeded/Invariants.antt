use Rattle.dr_sim.proofs.simulation.Simulation.run_seeded.Given as goal

abbrev pub ghost-run_by_seed : goal.ghost-run_by_seed
ghost-run_by_seed g a = g.group
