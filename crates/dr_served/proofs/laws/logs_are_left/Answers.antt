use Rattle.dr_served.proofs.Leaving.{left_log}
use Rattle.dr_served.proofs.laws.logs_are_left.Goals as goal

pub returns : goal.returns
returns g c = left_log _ _
