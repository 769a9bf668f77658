use Rattle.dr_faithful.proofs.{Begin.begun, Faithfulness.faithful_keeps}
use Rattle.dr_faithful.proofs.laws.members_are_faithful.Goals as goal

pub returns-clause-begins : goal.returns-clause-begins
returns-clause-begins c = begun

pub returns-clause-keeps : goal.returns-clause-keeps
returns-clause-keeps c = faithful_keeps
