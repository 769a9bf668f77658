use Rattle.dr_complete.proofs.Takes.{takes_all}
use Rattle.dr_complete.proofs.laws.nothing_ready_is_overlooked.Goals as goal

pub returns : goal.returns
returns c = takes_all
