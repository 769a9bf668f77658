use Rattle.dr_program_laws.proofs.Ending.{ran_agreed}
use Rattle.dr_program_laws.proofs.ends_agree.Goals as goal

pub returns : goal.returns
returns c = ran_agreed
