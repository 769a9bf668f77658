use Rattle.dr_program_laws.proofs.Ending.{have_causes, have_ended}
use Rattle.dr_program_laws.proofs.members_end_as_they_should.Goals as goal

pub returns-clause-ends : goal.returns-clause-ends
returns-clause-ends c = have_ended

pub returns-clause-causes : goal.returns-clause-causes
returns-clause-causes c = have_causes
