use Rattle.dr_quorum_laws.proofs.AllThere.{all-pass}
use Rattle.dr_quorum_laws.proofs.laws.all_logs_are_enough.Goals as goal

pub returns : goal.returns
returns c = all-pass
