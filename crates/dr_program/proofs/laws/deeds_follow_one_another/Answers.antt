use Rattle.dr_program.proofs.Runs.{ran_on}
use Rattle.dr_program.proofs.laws.deeds_follow_one_another.Goals as goal

pub returns : goal.returns
returns c = ran_on
