use Rattle.dr_faithful.specs.Chosen.{views_by}
use Rattle.dr_world_laws.proofs.Telling.{came-back, came-before, has-present, has-view, view-ended, view-once}
use Rattle.dr_world_laws.proofs.Worlds.{known}
use Rattle.dr_world_laws.proofs.views_end_by_votes.Goals as goal

pub returns : goal.returns
returns c = record {
  once = λ g w v one other is r h k. view-once g w v one other is (known g w is r) h k;
  come = λ g w m v is r come. let y = known g w is r in (views_by g y.values v, has-view g w m v is y come);
  present = λ g w m is r. has-present g w m is (known g w is r);
  came = λ g w m v members is r next h there. came-back g w m v members is (known g w is r) next h there;
  before = λ g w m is r e. came-before g w m is (known g w is r) e;
  ended = λ g w v members next is r h k. view-ended g w v members next is (known g w is r) h k;
}
