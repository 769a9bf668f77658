use Rattle.dr_program_laws.proofs.Bounds.{history_bounded, history_small}
use Rattle.dr_program_laws.proofs.room.histories_are_bounded.Goals as goal

pub returns-clause-script : goal.returns-clause-script
returns-clause-script c = history_bounded

pub returns-clause-limits : goal.returns-clause-limits
returns-clause-limits c = history_small
