use Rattle.std.proofs.Common.{◌-◌, ◌*◌, ◌^◌, length, map, slice_index}
use Rattle.dr_history.specs.Places.{AllHeldBelow}
use Rattle.dr_replica.specs.Spots.{IsSpot}
use Rattle.dr_replica.proofs.items.front_from.Given as goal

abbrev pub invariant-loop-spot : goal.invariant-loop-spot
invariant-loop-spot l = record {
  spot : IsSpot (length l.members) l.spot;
  held : AllHeldBelow (map (slice_index l.counts) l.members) l.spot.place;
}

abbrev pub decreases-loop-spot : goal.decreases-loop-spot
decreases-loop-spot l = length l.members * 2 ^ 32 - l.spot.place
