use Rattle.dr_restart.proofs.Sounding.{chosen_valid}
use Rattle.dr_quorum.proofs.laws.chosen_entries_are_valid.Goals as goal

pub returns : goal.returns
returns c = chosen_valid
