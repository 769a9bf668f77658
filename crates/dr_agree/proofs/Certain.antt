-- What is certain of the views of a world that is reached, and of its members that are done.
use Rattle.dr_faithful.specs.Chosen.{views_by}
use Rattle.dr_machine.specs.{Group.{Group, IsGroup}, World.World}
use Rattle.dr_world_laws.proofs.Agreeing.{done-lacks-none, done-same}
use Rattle.dr_world_laws.proofs.Telling.{has-present, has-view, view-ended, view-once, voted-covered}
use Rattle.dr_world_laws.proofs.Worlds.{Known, done-durable, done-whole, holds-remaining}
use Rattle.dr_agree.specs.Certain.{DoneHoldAll, ViewsAgreed, WholeAreOne}

pub views_agreed : (g : Group) (w : World) → IsGroup g → Known g w → ViewsAgreed g w
views_agreed g w is y = record {
  once = λ v one other h k. view-once g w v one other is y h k;
  come = λ m v come. (views_by g y.values v, has-view g w m v is y come);
  present = λ m. has-present g w m is y;
  ended = λ v members next h k. view-ended g w v members next is y h k;
  covered = λ v members b x h voted. voted-covered g w v b members x is y h voted;
}

pub done_hold_all : (g : Group) (w : World) → IsGroup g → Known g w → DoneHoldAll g w
done_hold_all g w is y = record {
  whole = λ m l e. done-whole g w m is y l e;
  durable = λ m l e. done-durable g w m y l e;
  lacks_none = λ m k s either l e n. done-lacks-none g y.values w m k s is y.chosen either l e n;
  same = λ m k l e n d view. done-same g y.values w m k is y.chosen l e n d view;
}

pub whole_are_one : (g : Group) (w : World) → IsGroup g → Known g w → WholeAreOne g w
whole_are_one g w is y m l first whole = holds-remaining g w m is y l first whole
