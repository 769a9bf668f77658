use Rattle.std.proofs.{Common.{ℕ, List, length, subst}, lemmas.Result.on_ok_weaker}
use Rattle.dr_entry.specs.declared.entry.Entry.{Entry}
use Rattle.dr_picture.specs.Sheet.{HasDrawn}
use Rattle.dr_picture.proofs.picture.Picture.see.Goals as goal

pub returns-clause-drawn : goal.returns-clause-drawn
returns-clause-drawn c =
    let history = c.args.member.now.replica.history in
    let drawn = c.count_drawn-first.new.drawn.items in
    let told = subst (λ (h : List Entry). HasDrawn c.me-me.result (length h) drawn)
    c.history-history.ensures c.count_drawn-first.ensures.drawn in
    on_ok_weaker c.draw_bands.result
    (λ keeps some. subst (λ (m : ℕ). HasDrawn m (length history) drawn) c.me-me.ensures told) c.draw_bands.ensures
