use Rattle.dr_ages.proofs.Completing.{complete_by_time}
use Rattle.dr_ages.proofs.laws.timely_ages_complete.Goals as goal

pub returns : goal.returns
returns c = complete_by_time
