use Rattle.std.proofs.Common.{refl, rules}
use Rattle.dr_outcome.proofs.Due.{says_only}
use Rattle.dr_outcome.proofs.outcome.without_ages.Goals as goal

pub returns-clause-alone : goal.returns-clause-alone
returns-clause-alone c = λ yard. says_only _ yard _ (search rules) refl refl refl
