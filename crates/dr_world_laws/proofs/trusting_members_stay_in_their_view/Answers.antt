use Rattle.dr_world_laws.proofs.FirstView.{stays_first}
use Rattle.dr_world_laws.proofs.trusting_members_stay_in_their_view.Goals as goal

pub returns : goal.returns
returns c = stays_first
