use Rattle.dr_door.proofs.Later.{doors_last}
use Rattle.dr_door.proofs.laws.doors_never_take_back.Goals as goal

pub returns : goal.returns
returns c = doors_last
