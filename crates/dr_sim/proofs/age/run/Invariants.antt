use Rattle.dr_sim.proofs.age.run.Given as goal

abbrev pub ghost-run_lockstep : goal.ghost-run_lockstep
ghost-run_lockstep g a = g.group

abbrev pub ghost-run_seeded : goal.ghost-run_seeded
ghost-run_seeded g a = g.group

abbrev pub ghost-tell_end : goal.ghost-tell_end
ghost-tell_end g a = g.group
