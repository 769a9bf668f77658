use Rattle.dr_commands.proofs.PlayedRight.{tells_right}
use Rattle.dr_commands.proofs.check.laws.checks_tell_what_is_right.Goals as goal

pub returns : goal.returns
returns c = tells_right
