use Rattle.dr_complete.proofs.Scripts.{completes_by_script}
use Rattle.dr_complete.proofs.laws.scripts_complete.Goals as goal

pub returns : goal.returns
returns c = completes_by_script
