use Rattle.std.proofs.Common.{arith}
use Rattle.dr_history.proofs.Bits.{has_without}
use Rattle.dr_words.proofs.Masks.{and_is_without}
use Rattle.dr_words.proofs.mask.Mask.without.Goals as goal

pub returns-clause-members : goal.returns-clause-members
returns-clause-members c i = rw (← c.self.view_is, ← c.other.view_is)
    (has_without c.self.inside.0 c.other.inside.0 (omega arith) (omega arith) i)

pub returns-clause-value : goal.returns-clause-value
returns-clause-value c = rw (← c.self.view_is, ← c.other.view_is)
    (and_is_without c.self.inside.0 c.other.inside.0 (omega arith) (omega arith))
