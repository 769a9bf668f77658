use Rattle.std.proofs.{Common.{◌≡◌, ◌++◌, OnOk, codes, string_bytes, subst}, lemmas.Result.on_ok_weaker}
use Rattle.dr_entry.proofs.ListFacts.{five_behind}
use Rattle.dr_picture.specs.{Marks.layer_text, Sheet.{Drawn, layers_text}}
use Rattle.dr_picture.proofs.sheet.Sheet.push_layers.Goals as goal

pub returns : goal.returns
returns c =
    let inside = c.self.inside in
    let words = string_bytes inside.words in
    subst (λ (d : Drawn). OnOk c.push_layer-5.result
    (string_bytes c.push_layer-5.new.out ≡ string_bytes c.args.out.now ++ layers_text d)) c.self.view_is
    (on_ok_weaker c.push_layer-5.result
    (five_behind (string_bytes c.args.out.now) (layer_text (codes "stroke='#d5dfec'") (string_bytes inside.grounds))
    (layer_text (codes "fill='none' stroke-opacity='0.5' marker-end='url(#head)'") (string_bytes inside.arrows))
    (layer_text (codes "stroke='white' stroke-width='3' stroke-opacity='0.8'") words)
    (layer_text (codes "stroke-width='1.5'") (string_bytes inside.marks)) (layer_text (codes "stroke='none'") words)
    (string_bytes c.push_layer.new.out) (string_bytes c.push_layer-2.new.out)
    (string_bytes c.push_layer-3.new.out) (string_bytes c.push_layer-4.new.out)
    (string_bytes c.push_layer-5.new.out) c.in_ok-push_layer.ensures c.in_ok-push_layer-2.ensures
    c.in_ok-push_layer-3.ensures c.in_ok-push_layer-4.ensures) c.push_layer-5.ensures)
