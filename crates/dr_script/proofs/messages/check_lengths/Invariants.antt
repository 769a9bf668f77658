use Rattle.std.proofs.Common.{◌≡◌, take, map, None}
use Rattle.serde_json.specs.View.{view}
use Rattle.dr_script.specs.{Places.broken_at, Rules.long_breaks}
use Rattle.dr_script.proofs.messages.check_lengths.Given as goal

abbrev pub invariant-loop-member : goal.invariant-loop-member
invariant-loop-member l = broken_at 9 (long_breaks (map view (take l.member l.lists))) ≡ None
