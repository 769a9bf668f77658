use Rattle.dr_vote_laws.proofs.Values.{commits, majority_stays, one_commit, same_ballot}
use Rattle.dr_vote_laws.proofs.laws.votes_are_one.Goals as goal

pub returns : goal.returns
returns c = record { ballot = same_ballot; majority = majority_stays; committed = commits; one = one_commit }
