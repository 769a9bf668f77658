use Rattle.dr_program_laws.proofs.Trusting.{at_ease, move_trusts, none_by_script, none_is_left, trusting_begins}
use Rattle.dr_program_laws.proofs.trusting_members_suspect_nobody.Goals as goal

pub returns-clause-begins : goal.returns-clause-begins
returns-clause-begins c = trusting_begins

pub returns-clause-keeps : goal.returns-clause-keeps
returns-clause-keeps c = move_trusts

pub returns-clause-ease : goal.returns-clause-ease
returns-clause-ease c = at_ease

pub returns-clause-ends : goal.returns-clause-ends
returns-clause-ends c = none_is_left

pub returns-clause-script : goal.returns-clause-script
returns-clause-script c = none_by_script
