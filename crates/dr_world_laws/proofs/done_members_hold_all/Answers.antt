use Rattle.dr_world_laws.proofs.Agreeing.{done-lacks-none, done-same, is-merged}
use Rattle.dr_world_laws.proofs.Worlds.{done-durable, done-whole, known}
use Rattle.dr_world_laws.proofs.done_members_hold_all.Goals as goal

pub returns : goal.returns
returns c = record {
  whole = λ g w m is r l e. done-whole g w m is (known g w is r) l e;
  durable = λ g w m is r l e. done-durable g w m (known g w is r) l e;
  lacks_none = λ g w m k s is r either l e n.
      let y = known g w is r in done-lacks-none g y.values w m k s is y.chosen either l e n;
  merged = λ g w m is r l e. let y = known g w is r in (y.values, is-merged g y.values w m is y.chosen l e);
  same = λ g w m k is r l e u d view.
      let y = known g w is r in done-same g y.values w m k is y.chosen l e u d view;
}
