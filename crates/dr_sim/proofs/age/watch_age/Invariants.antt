use Rattle.dr_restart.specs.Groups.{group_of}
use Rattle.dr_sim.proofs.age.watch_age.Given as goal

abbrev pub ghost-run : goal.ghost-run
ghost-run g a = group_of a.script.now a.start.now
