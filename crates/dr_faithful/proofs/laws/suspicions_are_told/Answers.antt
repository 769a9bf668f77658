use Rattle.dr_faithful.proofs.Suspicions.{promise_least, suspicions_told}
use Rattle.dr_faithful.proofs.laws.suspicions_are_told.Goals as goal

pub returns-clause-words : goal.returns-clause-words
returns-clause-words c = suspicions_told

pub returns-clause-promise : goal.returns-clause-promise
returns-clause-promise c = promise_least
