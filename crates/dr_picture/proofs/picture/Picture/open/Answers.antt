use Rattle.std.proofs.{Common.{ℕ, List, subst}, lemmas.Result.on_ok_weaker}
use Rattle.dr_history.specs.History.{IsPrefixOf}
use Rattle.dr_picture.proofs.Growing.{grown_same}
use Rattle.dr_picture.proofs.picture.Picture.open.Goals as goal

pub returns-clause-keeps : goal.returns-clause-keeps
returns-clause-keeps c =
    on_ok_weaker c.lay.result (λ keeps first is. keeps first (c.in_ok-head_age.ensures.keeps first is)) c.lay.ensures

pub returns-clause-heading : goal.returns-clause-heading
returns-clause-heading c =
    let now = c.head_age.new.sheet in
    on_ok_weaker c.lay.result
    (λ keeps some. subst (λ (l : List ℕ). IsPrefixOf l c.lay.new.sheet.words) c.in_ok-head_age.ensures.heading
    (keeps now (grown_same now)).words) c.lay.ensures
