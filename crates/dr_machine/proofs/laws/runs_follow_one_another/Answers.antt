use Rattle.dr_machine.proofs.Runs.{run_on, run_reached}
use Rattle.dr_machine.proofs.laws.runs_follow_one_another.Goals as goal

pub returns : goal.returns
returns c = record { follow = run_on; reached = run_reached }
