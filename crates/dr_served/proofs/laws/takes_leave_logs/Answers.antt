use Rattle.dr_served.proofs.Serving.{took_served, took_stays_ready}
use Rattle.dr_served.proofs.laws.takes_leave_logs.Goals as goal

pub returns : goal.returns
returns g c = λ base log letter r asks form on ready served. (
  took_served _ _ base log letter r asks form.logged on served,
  took_stays_ready log letter r ready,
)
