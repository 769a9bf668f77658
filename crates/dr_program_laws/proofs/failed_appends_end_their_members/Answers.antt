use Rattle.dr_program_laws.proofs.Failing.{all_fail, move_fails}
use Rattle.dr_program_laws.proofs.failed_appends_end_their_members.Goals as goal

pub returns-clause-ends : goal.returns-clause-ends
returns-clause-ends c = all_fail

pub returns-clause-keeps : goal.returns-clause-keeps
returns-clause-keeps c = move_fails
