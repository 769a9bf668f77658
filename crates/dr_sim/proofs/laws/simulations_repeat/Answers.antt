use Rattle.dr_sim.proofs.Repeats.{repeats}
use Rattle.dr_sim.proofs.laws.simulations_repeat.Goals as goal

pub returns : goal.returns
returns c = repeats c.setups_are_of_the_group.ensures.one
