use Rattle.std.proofs.Common.{◌≡◌, ◌++◌, string_bytes, take}
use Rattle.dr_summary.specs.Table.{marks_text}
use Rattle.dr_summary.proofs.marks.push_marks.Given as goal

abbrev pub invariant-loop-member : goal.invariant-loop-member
invariant-loop-member l =
    string_bytes l.out ≡ string_bytes l.initial.out ++ marks_text (take l.member-index l.members) l.number
