use Rattle.dr_faithful.proofs.Faithfulness.{past_on_event}
use Rattle.dr_faithful.proofs.laws.pasts_grow.Goals as goal

pub returns : goal.returns
returns c = past_on_event
