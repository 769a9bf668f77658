use Rattle.dr_program_laws.proofs.Later.{leaves_none, starts_whole}
use Rattle.dr_complete.proofs.laws.complete_ages_leave_nothing.Goals as goal

pub returns : goal.returns
returns c = record { start = starts_whole; nothing = leaves_none }
