use Rattle.std.proofs.Common.{rules}
use Rattle.dr_yard.specs.Seals.{digits}
use Rattle.dr_yard.proofs.seals.digits.Goals as goal

pub returns : goal.returns
unfolding digits
returns c = search rules
