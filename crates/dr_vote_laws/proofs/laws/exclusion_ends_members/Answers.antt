use Rattle.dr_machine.proofs.Exclusions.{excluded_so}
use Rattle.dr_vote_laws.proofs.laws.exclusion_ends_members.Goals as goal

pub returns : goal.returns
returns c = excluded_so
