use Rattle.std.{specs.List.filter_map, proofs.Common.{◌≡◌, ◌<◌, All, take, map, None}}
use Rattle.serde_json.specs.View.{view}
use Rattle.dr_script.specs.{Places.broken_at, Rules.{member_breaks, text_of}}
use Rattle.dr_script.proofs.messages.texts_in.Given as goal

abbrev pub invariant-loop-index : goal.invariant-loop-index
invariant-loop-index l = record {
  kept : broken_at 10 (member_breaks l.member (map view (take l.index l.texts))) ≡ None;
  messages : l.messages.items ≡ filter_map text_of (map view (take l.index l.texts));
  bytes : All (All (λ byte. byte < 256)) l.messages.items;
}
