use Rattle.dr_history.proofs.Standing.{SamePast-either}
use Rattle.dr_history_laws.proofs.order.agreement_law.Goals as goal

pub returns : goal.returns
returns c = SamePast-either
