use Rattle.dr_turn_laws.proofs.Steadying.{steady_begins, steady_moves}
use Rattle.dr_turn_laws.proofs.programs_are_steady.Goals as goal

pub returns-clause-begins : goal.returns-clause-begins
returns-clause-begins c = steady_begins

pub returns-clause-keeps : goal.returns-clause-keeps
returns-clause-keeps c = steady_moves
