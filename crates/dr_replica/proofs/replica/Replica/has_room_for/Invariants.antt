use Rattle.std.proofs.Common.{◌≡◌, length}
use Rattle.dr_history.specs.Places.{rest_places}
use Rattle.dr_trim.specs.Trims.{trims_by_rank}
use Rattle.dr_replica.proofs.Delivering.{AreCounted}
use Rattle.dr_replica.proofs.replica.Replica.has_room_for.Given as goal

-- the entries so far are counted, and what is left, behind them, is what there was at the beginning
abbrev pub invariant-loop-spot : goal.invariant-loop-spot
invariant-loop-spot l = record {
  trims : l.rest.trims.items ≡ trims_by_rank l.self-inside.members l.trim;
  counted : AreCounted l.self-inside.items l.self-inside.history.entries
      (trims_by_rank l.self-inside.members l.trim) l.self-inside.next.place l.rest.next.place l.me l.entries l.own;
}

abbrev pub decreases-loop-spot : goal.decreases-loop-spot
decreases-loop-spot l = length (rest_places l.rest.trims.items l.rest.next.place)
