use Rattle.dr_history.proofs.Fronts.{front_is, front_only}
use Rattle.dr_order.proofs.front_law.Goals as goal

pub returns-clause-first : goal.returns-clause-first
returns-clause-first c counts some = front_is counts some

pub returns-clause-one : goal.returns-clause-one
returns-clause-one c counts front some is = front_only counts front some is
