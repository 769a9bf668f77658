use Rattle.dr_world_laws.proofs.{Telling.voted-cut, Worlds.known}
use Rattle.dr_world_laws.proofs.values_are_cuts.Goals as goal

pub returns : goal.returns
returns c = λ g w i x is r h. voted-cut g w i x is (known g w is r) h
