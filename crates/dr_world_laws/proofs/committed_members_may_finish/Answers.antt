use Rattle.dr_world_laws.proofs.Worlds.{known, may-finish}
use Rattle.dr_world_laws.proofs.committed_members_may_finish.Goals as goal

pub returns : goal.returns
returns c = λ g w m x is r may e stays. may-finish g w m x is (known g w is r) may e stays
