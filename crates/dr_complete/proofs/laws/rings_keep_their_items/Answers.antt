use Rattle.dr_complete.proofs.Rings.{rings_keep}
use Rattle.dr_complete.proofs.laws.rings_keep_their_items.Goals as goal

pub returns : goal.returns
returns c = rings_keep
