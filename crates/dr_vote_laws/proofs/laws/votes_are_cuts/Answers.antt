use Rattle.dr_vote_laws.proofs.Cuts.{vote_cut}
use Rattle.dr_vote_laws.proofs.laws.votes_are_cuts.Goals as goal

pub returns : goal.returns
returns c = vote_cut
