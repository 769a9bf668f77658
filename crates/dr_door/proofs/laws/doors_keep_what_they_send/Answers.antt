use Rattle.dr_door.proofs.Sending.{doors_keep_sent}
use Rattle.dr_door.proofs.laws.doors_keep_what_they_send.Goals as goal

pub returns : goal.returns
returns c = doors_keep_sent
