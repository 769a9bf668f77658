use Rattle.dr_world_laws.proofs.{Rooms.{history-short, view-below}, Worlds.known}
use Rattle.dr_world_laws.proofs.histories_are_short.Goals as goal

pub returns : goal.returns
returns c = record {
  view = λ g w m is r l. let y = known g w is r in view-below g y.values w m is y.chosen l;
  history = λ g w m most is r l few.
      let y = known g w is r in history-short g y.values w m most is y.chosen l few;
}
