use Rattle.std.proofs.Common.{◌≡◌, ◌+◌, ◌++◌, string_bytes, take}
use Rattle.dr_summary.specs.{Marks.AreMarks, Table.rows_text}
use Rattle.dr_summary.proofs.rows.push_rows.Given as goal

abbrev pub invariant-loop-index : goal.invariant-loop-index
invariant-loop-index l = (string_bytes l.out ≡ string_bytes l.initial.out ++ rows_text l.members l.first
    (take l.index l.entries)) × AreMarks l.members (l.first + l.index) l.marks.last (string_bytes l.marks.text)
