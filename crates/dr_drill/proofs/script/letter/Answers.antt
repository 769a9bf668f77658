use Rattle.std.proofs.Common.{◌+◌, ap}
use Rattle.dr_drill.specs.Drill.{letter, state_after}
use Rattle.dr_drill.proofs.script.letter.Goals as goal

pub returns-clause-letter : goal.returns-clause-letter
unfolding letter state_after
returns-clause-letter c = ap (λ x. 97 + x) c.choose.ensures.choice
