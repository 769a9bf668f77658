use Rattle.std.{specs.List.flat_map, proofs.Common.{◌≡◌, ◌++◌, string_bytes, take}}
use Rattle.dr_summary.specs.Notes.{message_name}
use Rattle.dr_summary.proofs.undelivered.push_names.Given as goal

abbrev pub invariant-loop-sender : goal.invariant-loop-sender
invariant-loop-sender l =
    string_bytes l.out ≡ string_bytes l.initial.out ++ flat_map message_name (take l.sender-index l.names)
