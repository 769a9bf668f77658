use Rattle.std.proofs.Common.{refl}
use Rattle.dr_check.proofs.laws.reports_are_read.Goals as goal

pub returns : goal.returns
returns c members line text r is refused = refused.none text r is refl refl
