use Rattle.dr_quorum_laws.proofs.Voting.{lasting-more, since-more}
use Rattle.dr_quorum_laws.proofs.laws.age_votes_take_nothing_away.Goals as goal

pub returns : goal.returns
returns c = record {
  held = λ g w choice before after tries more held. since-more g w choice before after tries more held;
  lasts = λ script es before after more lasts. lasting-more script es before after more lasts;
}
