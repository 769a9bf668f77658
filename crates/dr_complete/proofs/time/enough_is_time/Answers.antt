use Rattle.dr_complete.proofs.Enough.{enough_is_time}
use Rattle.dr_complete.proofs.time.enough_is_time.Goals as goal

pub returns : goal.returns
returns c = enough_is_time
