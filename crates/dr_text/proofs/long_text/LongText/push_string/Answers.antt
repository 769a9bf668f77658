use Rattle.std.proofs.{Common.{◌≡◌, ◌++◌, ◌∷◌, [], ◌∙◌, ap, refl, string_bytes}, lemmas.List.append-nil}
use Rattle.dr_entry.proofs.ListFacts.{concat_behind}
use Rattle.dr_text.{specs.declared.pieces.Piece.Piece, proofs.Texts.piece_more}
use Rattle.dr_text.proofs.long_text.LongText.push_string.Goals as goal

pub returns : goal.returns
returns c =
    let text = string_bytes c.args.text in
    let piece : Piece = record { own = c.args.text; count = 0 } in
    let part : c.of.result ≡ text = c.of.ensures
    ∙ piece_more (string_bytes c.new.result) [] c.push.new.self.items piece text [] (c.in_ok-push.ensures.items
    ∙ ap (λ pieces. pieces ++ piece ∷ []) c.new-pieces.ensures.items) refl refl ∙ append-nil text in
    concat_behind c.self.inside.parts.items c.push-2.new.self.items c.args.self.now c.of.result text
    c.in_ok-push-2.ensures.items c.self.view_is part
