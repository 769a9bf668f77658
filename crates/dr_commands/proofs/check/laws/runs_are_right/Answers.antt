use Rattle.dr_entry.proofs.ListParts.{run_end}
use Rattle.dr_commands.proofs.RunsRight.{run_right}
use Rattle.dr_intake.specs.Status.{status_of}
use Rattle.dr_commands.proofs.check.laws.runs_are_right.Goals as goal

pub returns : goal.returns
returns c script part mode before after ages stop last ranges tell run is end =
    run_right script part mode before after ages stop last ranges tell run is (run_end (status_of last) end)
