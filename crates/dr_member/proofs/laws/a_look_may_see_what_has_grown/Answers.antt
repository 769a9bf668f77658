use Rattle.dr_member.proofs.Dues.{may_see}
use Rattle.dr_member.proofs.laws.a_look_may_see_what_has_grown.Goals as goal

pub returns : goal.returns
returns c = may_see
