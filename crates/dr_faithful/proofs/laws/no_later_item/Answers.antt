use Rattle.dr_faithful.proofs.Faithfulness.{none_later}
use Rattle.dr_faithful.proofs.laws.no_later_item.Goals as goal

pub returns : goal.returns
returns c = none_later
