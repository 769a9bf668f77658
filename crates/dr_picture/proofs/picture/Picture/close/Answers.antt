use Rattle.std.proofs.lemmas.Result.{on_ok_weaker}
use Rattle.dr_picture.proofs.picture.Picture.close.Goals as goal

pub returns-clause-keeps : goal.returns-clause-keeps
returns-clause-keeps c =
    on_ok_weaker c.lay.result (λ keeps first is. keeps first (c.in_ok-draw_bands.ensures first is)) c.lay.ensures
