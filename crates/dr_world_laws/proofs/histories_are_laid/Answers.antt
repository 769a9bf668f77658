use Rattle.dr_world_laws.proofs.Worlds.{known}
use Rattle.dr_world_laws.proofs.histories_are_laid.Goals as goal

pub returns : goal.returns
returns c = λ g w is r. let y = known g w is r in (y.values, y.chosen.laid)
