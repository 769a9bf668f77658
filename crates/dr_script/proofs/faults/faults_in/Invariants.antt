use Rattle.std.{specs.List.filter_map, proofs.Common.{◌≡◌, take, map, None}}
use Rattle.serde_json.specs.View.{view}
use Rattle.dr_script.specs.{Places.broken_at, Rules.{deed_breaks, fault_of}}
use Rattle.dr_script.proofs.faults.faults_in.Given as goal

abbrev pub invariant-loop-index : goal.invariant-loop-index
invariant-loop-index l = record {
  kept : broken_at 13 (deed_breaks l.sizes (map view (take l.index l.values))) ≡ None;
  faults : l.faults.items ≡ filter_map (fault_of l.sizes) (map view (take l.index l.values));
}
