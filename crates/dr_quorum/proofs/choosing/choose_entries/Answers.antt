use Rattle.std.proofs.Common.{refl, inr}
use Rattle.dr_quorum.proofs.choosing.choose_entries.Goals as goal

pub returns-in-None-clause-chosen : goal.returns-in-None-clause-chosen
returns-in-None-clause-chosen c = inr (record { nobody = c.in-None.ensures.none; none = refl })
