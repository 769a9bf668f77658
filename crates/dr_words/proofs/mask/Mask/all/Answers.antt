use Rattle.dr_entry.proofs.NumberFacts.{ones_of}
use Rattle.dr_history.proofs.Bits.{has_ones}
use Rattle.dr_words.proofs.mask.Mask.all.Goals as goal

pub returns-clause-members : goal.returns-clause-members
returns-clause-members c n = rw (ones_of c.args.members c.requires.some c.requires.most) (has_ones c.args.members n)

pub returns-clause-bits : goal.returns-clause-bits
returns-clause-bits c = ones_of c.args.members c.requires.some c.requires.most
