use Rattle.dr_vote_laws.proofs.{Moments.{accepts_arrive, accepts_begin}, Steps.accepts_stay}
use Rattle.dr_vote_laws.proofs.laws.accepts_are_of_moments.Goals as goal

pub returns : goal.returns
returns c = record { begins = accepts_begin; keeps = accepts_stay; arrive = accepts_arrive }
