use Rattle.std.proofs.Common.{◌≡◌, ◌++◌, string_bytes, take}
use Rattle.dr_json.specs.Json.{lists_json}
use Rattle.dr_json.proofs.script.push_lists.Given as goal

abbrev pub invariant-loop-member : goal.invariant-loop-member
invariant-loop-member l = string_bytes l.out ≡ string_bytes l.initial.out ++ lists_json (take l.member l.lists)
