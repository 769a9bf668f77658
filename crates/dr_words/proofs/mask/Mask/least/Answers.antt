use Rattle.std.proofs.Common.{arith, sym}
use Rattle.dr_history.proofs.{Bits.has_zero, Ranks.{first_member, no_first}}
use Rattle.dr_words.proofs.Ranks.{least_member}
use Rattle.dr_words.proofs.mask.Mask.least.Goals as goal

pub returns-then-self-eq0-clause-first : goal.returns-then-self-eq0-clause-first
returns-then-self-eq0-clause-first c = rw (← c.self.view_is, c.if-self-eq0.true) (sym no_first)

pub returns-then-self-eq0-clause-least : goal.returns-then-self-eq0-clause-least
returns-then-self-eq0-clause-least c = rw (← c.self.view_is, c.if-self-eq0.true) has_zero

pub returns-else-self-eq0-clause-first : goal.returns-else-self-eq0-clause-first
returns-else-self-eq0-clause-first c =
    rw (← c.self.view_is) (sym (first_member c.self.inside.0 (omega arith) (omega arith)))

pub returns-else-self-eq0-clause-least : goal.returns-else-self-eq0-clause-least
returns-else-self-eq0-clause-least c =
    rw (← c.self.view_is) (least_member c.self.inside.0 (omega arith) (omega arith))
