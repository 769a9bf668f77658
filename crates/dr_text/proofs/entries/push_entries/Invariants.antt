use Rattle.std.{specs.List.flat_map, proofs.Common.{◌≡◌, ◌++◌, string_bytes, take}}
use Rattle.dr_text.specs.Report.{entry_text}
use Rattle.dr_text.proofs.entries.push_entries.Given as goal

abbrev pub invariant-loop-entry : goal.invariant-loop-entry
invariant-loop-entry l =
    string_bytes l.out ≡ string_bytes l.initial.out ++ flat_map entry_text (take l.entry-index l.entries)
