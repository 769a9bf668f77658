use Rattle.dr_shards.proofs.Numbers.{by_number}
use Rattle.dr_shards.proofs.laws.members_keep_their_numbers.Goals as goal

pub returns : goal.returns
returns c = by_number
