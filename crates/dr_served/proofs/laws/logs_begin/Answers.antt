use Rattle.dr_served.proofs.Serving.{begins}
use Rattle.dr_served.proofs.laws.logs_begin.Goals as goal

pub returns : goal.returns
returns g c = begins _ _
