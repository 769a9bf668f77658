use Rattle.dr_served.proofs.Grouped.{all_failed, all_ready, all_served}
use Rattle.dr_served.proofs.laws.groups_serve_logs.Goals as goal

pub returns-clause-well : goal.returns-clause-well
returns-clause-well g c = λ base log new r q due is ready served did now. (
  all_served _ _ base log new r q due.due did now served,
  all_ready _ _ log new r q due is did now ready,
)

pub returns-clause-failed : goal.returns-clause-failed
returns-clause-failed g c = λ base log new r due served did. all_failed _ _ base log new r due.due did served
