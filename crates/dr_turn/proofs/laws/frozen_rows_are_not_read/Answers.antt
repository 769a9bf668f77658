use Rattle.dr_program.proofs.Deeds.{unfrozen_read}
use Rattle.dr_turn.proofs.laws.frozen_rows_are_not_read.Goals as goal

pub returns : goal.returns
returns c = unfrozen_read
