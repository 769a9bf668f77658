use Rattle.std.proofs.{Common.arith, lemmas.Nat.le_or_l}
use Rattle.dr_history.proofs.Bits.{has_with}
use Rattle.dr_words.proofs.Masks.{or_is_with_member}
use Rattle.dr_words.proofs.mask.Mask.with.Goals as goal

pub returns-clause-members : goal.returns-clause-members
returns-clause-members c i = rw c.self.view_is (has_with c.args.self.now c.args.n c.requires i)

pub returns-clause-grows : goal.returns-clause-grows
returns-clause-grows c = rw c.self.view_is (le_or_l c.args.self.now _)

pub returns-clause-value : goal.returns-clause-value
returns-clause-value c = rw (← c.self.view_is) (or_is_with_member c.self.inside.0 c.args.n (omega arith) c.requires)
