use Rattle.dr_program_laws.proofs.Keeping.{deeds_events, deeds_kept, move_kept, sees}
use Rattle.dr_program_laws.proofs.deeds_keep_programs.Goals as goal

pub returns-clause-deeds : goal.returns-clause-deeds
returns-clause-deeds c = deeds_kept

pub returns-clause-events : goal.returns-clause-events
returns-clause-events c = deeds_events

pub returns-clause-deed : goal.returns-clause-deed
returns-clause-deed c = move_kept

pub returns-clause-sight : goal.returns-clause-sight
returns-clause-sight c = sees
