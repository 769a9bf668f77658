use Rattle.dr_history_laws.proofs.{Ordered.view-distinct, Resting.rest-merged}
use Rattle.dr_history_laws.proofs.order.rest_law.Goals as goal

pub returns : goal.returns
returns c = λ o sent head v taken p add ends goes below adds. rest-merged o sent head v taken p add goes
    (view-distinct head v ends) below adds
