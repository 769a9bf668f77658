use Rattle.dr_vote_laws.proofs.Late.{arrived_votes, votes_backed, votes_on}
use Rattle.dr_vote_laws.proofs.laws.late_votes_do_no_harm.Goals as goal

pub returns : goal.returns
returns c = record { begins = votes_backed; keeps = votes_on; arrive = arrived_votes }
