use Rattle.std.{specs.List.flat_map, proofs.Common.{◌≡◌, ◌++◌, ◌∙◌, [], take, drop, sym, ap, refl, string_bytes}}
use Rattle.dr_entry.proofs.ListFacts.{lines_more, text_parts}
use Rattle.dr_text.{specs.{Pieces.pieces_text, Report.{entry_text, member_line}}, proofs.Texts.piece_more}
use Rattle.dr_text.proofs.age.push_member.Goals as goal

pub returns : goal.returns
returns c =
    let m = c.args.member.now in
    let lines = string_bytes c.args.printed.now.text in
    let own = c.own_entries-entries.result.now in
    let same = c.count_same-same.result in
    let line = member_line c.args.number m in
    let first = flat_map entry_text (take same own) in
    let rest = flat_map entry_text (drop same own) in
    let begun : pieces_text lines c.push.new.self.items ≡ pieces_text lines c.args.pieces.now.items
    ++ (line ++ first) = piece_more lines _ _ _ line first c.in_ok-push.ensures.items c.in_ok-line_of.ensures
    (c.end_of.ensures ∙ ap (flat_map entry_text) c.count_same-same.ensures.same) in
    let after : pieces_text lines c.push-2.new.self.items ≡ pieces_text lines c.push.new.self.items ++ (rest ++ []) =
    piece_more lines _ _ _ rest [] c.in_ok-push-2.ensures.items
    (c.in_ok-lines_of.ensures ∙ ap (flat_map entry_text) c.behind.ensures) refl in
    lines_more _ _ _ line first rest (flat_map entry_text (drop c.args.start m.history)) begun after
    (sym (text_parts entry_text own same) ∙ ap (flat_map entry_text) c.own_entries-entries.ensures)
