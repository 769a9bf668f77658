use Rattle.std.proofs.Common.{arith}
use Rattle.dr_history.proofs.Bits.{has_xor}
use Rattle.dr_words.proofs.Masks.{xor_is_next}
use Rattle.dr_words.proofs.mask.Mask.next.Goals as goal

pub returns-clause-members : goal.returns-clause-members
returns-clause-members c i = rw (← c.self.view_is, ← c.names.view_is) (has_xor c.self.inside.0 c.names.inside.0 i)

pub returns-clause-value : goal.returns-clause-value
returns-clause-value c = rw (← c.self.view_is, ← c.names.view_is)
    (xor_is_next c.self.inside.0 c.names.inside.0 (omega arith) (omega arith))
