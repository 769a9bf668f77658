use Rattle.dr_world_laws.proofs.{Telling.voted-covered, Worlds.{delivered_within, known}}
use Rattle.dr_world_laws.proofs.trim_covers.Goals as goal

pub returns : goal.returns
returns c = record {
  covered = λ g w v b members x is r h voted. voted-covered g w v b members x is (known g w is r) h voted;
  committed = λ g w m k x is r l e same. delivered_within g w m k x is (known g w is r) l e same;
}
