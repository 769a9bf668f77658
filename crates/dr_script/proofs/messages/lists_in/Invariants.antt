use Rattle.std.proofs.Common.{◌≡◌, ◌<◌, All, take, map, None}
use Rattle.serde_json.specs.View.{view}
use Rattle.dr_script.specs.{Places.broken_at, Reading.messages_in, Rules.list_breaks}
use Rattle.dr_script.proofs.messages.lists_in.Given as goal

abbrev pub invariant-loop-member : goal.invariant-loop-member
invariant-loop-member l = record {
  kept : broken_at 10 (list_breaks (map view (take l.member l.lists))) ≡ None;
  messages : l.messages.items ≡ messages_in (map view (take l.member l.lists));
  bytes : All (All (All (λ byte. byte < 256))) l.messages.items;
}
