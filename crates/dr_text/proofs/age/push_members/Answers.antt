use Rattle.std.proofs.Common.{string_bytes, arith}
use Rattle.dr_entry.proofs.ListFacts.{numbered_texts_more}
use Rattle.dr_text.specs.{Pieces.pieces_text, Report.member_text}
use Rattle.dr_text.proofs.age.push_members.Goals as goal

pub loop-number-preserved : goal.loop-number-preserved
loop-number-preserved c =
    let lines = string_bytes c.args.printed.now.text in
    numbered_texts_more (λ t. member_text c.args.start t.0 t.1) c.args.members.now c.loop-number.number
    c.index-members-number.result (pieces_text lines c.args.pieces.now.items)
    (pieces_text lines c.loop-number.pieces.items) (pieces_text lines c.push_member.new.pieces.items) (omega arith)
    c.index-members-number.is c.loop-number.invariant (c.in_ok-push_member.ensures)
