use Rattle.dr_restart.proofs.{Setups.{absent, are_setups, more, none}, Unique.same_setups}
use Rattle.dr_restart.proofs.laws.setups_are_of_the_group.Goals as goal

pub returns : goal.returns
returns c = record { none = none; more = more; absent = absent; one = same_setups; all = are_setups }
