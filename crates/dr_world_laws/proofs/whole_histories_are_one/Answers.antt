use Rattle.dr_world_laws.proofs.Worlds.{holds-remaining, known}
use Rattle.dr_world_laws.proofs.whole_histories_are_one.Goals as goal

pub returns : goal.returns
returns c = λ g w m is r l first whole. holds-remaining g w m is (known g w is r) l first whole
