use Rattle.dr_opening.proofs.Losing.{rising_has_all, voting_has_all}
use Rattle.dr_opening.proofs.laws.openings_lose_nothing_common.Goals as goal

pub returns : goal.returns
returns c = record { voting = voting_has_all; rising = rising_has_all }
