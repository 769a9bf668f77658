use Rattle.dr_program_laws.proofs.Ending.{ended_by_script}
use Rattle.dr_program_laws.proofs.members_end_as_their_script_says.Goals as goal

pub returns : goal.returns
returns c = ended_by_script
