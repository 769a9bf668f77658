use Rattle.dr_calls.proofs.Ordered.{calls_ordered}
use Rattle.dr_calls.proofs.laws.calls_are_ordered.Goals as goal

pub returns : goal.returns
returns c = calls_ordered
