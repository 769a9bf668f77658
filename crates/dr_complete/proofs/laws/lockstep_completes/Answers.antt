use Rattle.dr_complete.proofs.Completeness.{completes}
use Rattle.dr_complete.proofs.laws.lockstep_completes.Goals as goal

pub returns : goal.returns
returns c = completes
