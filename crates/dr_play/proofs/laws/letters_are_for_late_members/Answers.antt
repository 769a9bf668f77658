use Rattle.dr_play.proofs.Letters.{deals_with_none}
use Rattle.dr_play.proofs.laws.letters_are_for_late_members.Goals as goal

pub returns : goal.returns
returns c = deals_with_none
