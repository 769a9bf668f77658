use Rattle.dr_shards.proofs.Agreeing.{one_age, same_shard}
use Rattle.dr_shards.proofs.laws.shards_repeat.Goals as goal

pub returns : goal.returns
returns c = record { same = same_shard; repeats = one_age c.simulations_repeat.ensures }
