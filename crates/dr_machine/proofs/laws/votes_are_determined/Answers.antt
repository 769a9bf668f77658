use Rattle.dr_machine.proofs.Voting.{one_vote}
use Rattle.dr_machine.proofs.laws.votes_are_determined.Goals as goal

pub returns : goal.returns
returns c = one_vote
