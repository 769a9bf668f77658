use Rattle.dr_history_laws.proofs.Cutting.{InOrder-next_view, merge-prefix}
use Rattle.dr_history_laws.proofs.order.view_laws.Goals as goal

pub returns : goal.returns
returns c = record { order = InOrder-next_view; prefix = merge-prefix }
