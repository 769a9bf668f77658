use Rattle.std.proofs.Common.{rules}
use Rattle.dr_yard.specs.Seals.{line_of}
use Rattle.dr_yard.proofs.seals.line_of.Goals as goal

pub returns : goal.returns
unfolding line_of
returns c = search rules
