use Rattle.dr_vote_laws.proofs.{Opening.begun, Steps.voting_keeps}
use Rattle.dr_vote_laws.proofs.laws.votes_stay_true.Goals as goal

pub returns-clause-begins : goal.returns-clause-begins
returns-clause-begins c = begun

pub returns-clause-keeps : goal.returns-clause-keeps
returns-clause-keeps c = voting_keeps
