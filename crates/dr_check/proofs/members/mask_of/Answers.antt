use Rattle.dr_history.proofs.Masks.{nobody}
use Rattle.dr_check.proofs.members.mask_of.Goals as goal

pub returns-in-Msg : goal.returns-in-Msg
returns-in-Msg c = rw c.in-Msg.is nobody
