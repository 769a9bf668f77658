use Rattle.dr_summary.proofs.Fronts.{fronts_of_longest}
use Rattle.dr_summary.proofs.laws.histories_are_fronts.Goals as goal

pub returns : goal.returns
returns c = fronts_of_longest
