use Rattle.dr_opening.proofs.Trying.{some_try, told_try}
use Rattle.dr_opening.proofs.laws.openings_are_tries.Goals as goal

pub returns : goal.returns
returns c = record { told = told_try; some = some_try }
