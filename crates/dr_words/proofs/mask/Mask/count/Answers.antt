use Rattle.std.proofs.Common.{arith, sym}
use Rattle.dr_history.proofs.Ranks.{length-members_of}
use Rattle.dr_words.proofs.mask.Mask.count.Goals as goal

pub returns-clause-value : goal.returns-clause-value
returns-clause-value c = rw (← c.self.view_is) (sym (length-members_of c.self.inside.0 (omega arith)))
