use Rattle.std.proofs.Common.{rules}
use Rattle.dr_yard.specs.Seals.{seal_told}
use Rattle.dr_yard.proofs.seals.seal_told.Goals as goal

pub returns : goal.returns
unfolding seal_told
returns c = search rules
