use Rattle.std.proofs.Common.{subst}
use Rattle.dr_world_laws.proofs.{Leavings.IsLeftSo, Worlds.{known, left_so}}
use Rattle.dr_world_laws.proofs.suspicion_ends_members.Goals as goal

pub returns : goal.returns
returns c = record {
  suspected = λ g w m by is r l e. subst (IsLeftSo w m) e (left_so g w is (known g w is r) m l);
  minority = λ g w m mask is r l e. subst (IsLeftSo w m) e (left_so g w is (known g w is r) m l);
}
