use Rattle.std.proofs.Common.{◌≡◌, take, map, None}
use Rattle.serde_json.specs.View.{view}
use Rattle.dr_script.specs.{Places.broken_at, Rules.place_breaks}
use Rattle.dr_script.proofs.faults.check_places.Given as goal

abbrev pub invariant-loop-index : goal.invariant-loop-index
invariant-loop-index l = broken_at 12 (place_breaks l.sizes (map view (take l.index l.values))) ≡ None
