use Rattle.dr_words.proofs.Majorities.{majorities_meet_lem}
use Rattle.dr_words.proofs.mask.majorities_meet.Goals as goal

pub returns : goal.returns
returns c = majorities_meet_lem
