use Rattle.dr_entry.proofs.ListParts.{run_end}
use Rattle.dr_intake.specs.Status.{status_of}
use Rattle.dr_commands.proofs.PlayedRight.{plays_right}
use Rattle.dr_commands.proofs.check.laws.played_scripts_are_judged_right.Goals as goal

pub returns : goal.returns
returns c play bytes before after o last plays is end tell =
    plays_right play bytes before after o last plays is (run_end (status_of last) end) tell
