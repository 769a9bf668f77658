use Rattle.dr_history_laws.proofs.Wholes.{whole-leaves_none}
use Rattle.dr_world_laws.proofs.whole_histories_leave_nothing.Goals as goal

pub returns : goal.returns
returns c = whole-leaves_none
