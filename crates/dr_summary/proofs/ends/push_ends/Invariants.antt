use Rattle.std.proofs.Common.{◌≡◌, ◌++◌, string_bytes, take}
use Rattle.dr_summary.specs.Notes.{ends_text}
use Rattle.dr_summary.proofs.ends.push_ends.Given as goal

abbrev pub invariant-loop-number : goal.invariant-loop-number
invariant-loop-number l =
    string_bytes l.out ≡ string_bytes l.initial.out ++ ends_text l.limit (take l.number l.members)
