use Rattle.dr_served.proofs.Serving.{appended_ready, appended_served, failed_ready, failed_served, full_served}
use Rattle.dr_served.proofs.laws.appends_serve_logs.Goals as goal

pub returns-clause-well : goal.returns-clause-well
returns-clause-well g c = λ base log new word r due ready served did. (
  appended_served _ _ base log new word r due.due served did.made did.fits did.goes did.lasting did.safe did.calm,
  appended_ready log new word r due ready did.made,
)

pub returns-clause-failed : goal.returns-clause-failed
returns-clause-failed g c = λ base log new r due served did.
    failed_served _ _ base log new r due.due served did.made did.goes did.lasting did.rose did.later

pub returns-clause-full : goal.returns-clause-full
returns-clause-full g c = λ base log r len due served is.
    full_served _ _ base log r len due.due served is.long is.over

pub returns-clause-ready : goal.returns-clause-ready
returns-clause-ready g c = failed_ready
