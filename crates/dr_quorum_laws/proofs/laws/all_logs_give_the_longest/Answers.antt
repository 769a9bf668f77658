use Rattle.dr_restart.proofs.Longest.{longest-chosen}
use Rattle.dr_quorum_laws.proofs.laws.all_logs_give_the_longest.Goals as goal

pub returns : goal.returns
returns c = longest-chosen
