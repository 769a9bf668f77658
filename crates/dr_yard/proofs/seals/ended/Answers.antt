use Rattle.std.proofs.Common.{rules}
use Rattle.dr_yard.specs.Seals.{ended}
use Rattle.dr_yard.proofs.seals.ended.Goals as goal

pub returns : goal.returns
unfolding ended
returns c = search rules
