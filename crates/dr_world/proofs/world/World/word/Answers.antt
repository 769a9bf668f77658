use Rattle.std.{specs.Prelude.slice_index, proofs.Common.{sym, ap, ◌∙◌, subst, List, ℕ, get_or}}
use Rattle.std.proofs.lemmas.List.{get_or_read_under}
use Rattle.dr_words.specs.Layout.{word_index_of, words_of}
use Rattle.dr_world.{specs.Held.{Held, IsHeld}, proofs.Effects.word_there}
use Rattle.dr_world.proofs.world.World.word.Goals as goal

pub returns : goal.returns
returns c =
    let h : Held = c.args.self.now in
    let m = c.args.m in
    let view = c.view.result in
    let word = c.index.result.now in
    let shape = c.shape.ensures in
    let table = ap (λ (v : Held). v.table) c.self.view_is in
    let is : IsHeld h = subst IsHeld c.self.view_is c.self.invariant.held in
    get_or_read_under h.table c.word_index-index.result _ word 0 (c.index.ensures
    ∙ ap (λ (t : List ℕ). get_or t c.word_index-index.result word) table) c.word_index-index.ensures.within
    ((λ z. words_of (shape.members z) (shape.window z) (shape.banks z)) ∙ sym is.table)
    ∙ ap (slice_index h.table) (c.word_index-index.ensures.value
    ∙ (λ z. word_index_of (shape.members z) (shape.window z) view m c.args.row c.args.column))
    ∙ word_there h m view c.args.row c.args.column c.view.ensures.view c.view.ensures.bank c.requires.member
    c.requires.row c.requires.column
