use Rattle.dr_served.proofs.Serving.{other_ready, other_served}
use Rattle.dr_served.proofs.laws.other_deeds_leave_logs.Goals as goal

pub returns : goal.returns
returns g c = λ base log word r other none form ready served. (
  other_served _ _ base log word r other none form.logged served,
  other_ready log word r other ready,
)
