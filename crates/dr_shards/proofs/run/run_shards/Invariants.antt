use Rattle.std.proofs.Common.{take}
use Rattle.dr_shards.specs.Shards.{AreShardAges}
use Rattle.dr_shards.proofs.run.run_shards.Given as goal

abbrev pub invariant-loop-script : goal.invariant-loop-script
invariant-loop-script g l = AreShardAges l.mode (take l.script-index l.scripts) l.ages.items
