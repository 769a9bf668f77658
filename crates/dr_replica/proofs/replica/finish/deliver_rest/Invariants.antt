use Rattle.std.proofs.Common.{◌≡◌, length}
use Rattle.dr_history.specs.Places.{rest_places}
use Rattle.dr_replica.specs.Rests.{merged_from}
use Rattle.dr_replica.proofs.replica.finish.deliver_rest.Given as goal

-- what is left to deliver, behind what was, is what there was at the beginning
abbrev pub invariant-loop-spot : goal.invariant-loop-spot
invariant-loop-spot l = record {
  history : merged_from l.items l.history.entries l.rest.trims.items l.rest.next.place
      ≡ merged_from l.items l.fn.history.entries l.fn.rest.trims.items l.fn.rest.next.place;
  roster : l.history.roster ≡ l.fn.history.roster;
  room : l.history.room ≡ l.fn.history.room;
  trims : l.rest.trims ≡ l.fn.rest.trims;
}

abbrev pub decreases-loop-spot : goal.decreases-loop-spot
decreases-loop-spot l = length (rest_places l.rest.trims.items l.rest.next.place)
