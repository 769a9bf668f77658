use Rattle.std.proofs.Common.{◌≡◌, ◌++◌, string_bytes, take}
use Rattle.dr_text.specs.{Pieces.pieces_text, Report.members_text}
use Rattle.dr_text.proofs.age.push_members.Given as goal

abbrev pub invariant-loop-number : goal.invariant-loop-number
invariant-loop-number l = pieces_text (string_bytes l.printed.text) l.pieces.items
    ≡ pieces_text (string_bytes l.printed.text) l.initial.pieces.items
    ++ members_text l.start (take l.number l.members)
