use Rattle.dr_seat_laws.proofs.Alone.{alone-runs}
use Rattle.dr_seat_laws.proofs.laws.seats_may_run.Goals as goal

pub returns : goal.returns
returns c = alone-runs
