use Rattle.dr_quorum_laws.proofs.AllThere.{returned-pass}
use Rattle.dr_quorum_laws.proofs.laws.returning_logs_are_enough.Goals as goal

pub returns : goal.returns
returns c = returned-pass
