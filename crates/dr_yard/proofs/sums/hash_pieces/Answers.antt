use Rattle.std.proofs.Common.{rules, refl}
use Rattle.dr_yard.specs.Checksums.{hashed}
use Rattle.dr_yard.proofs.sums.hash_pieces.Goals as goal

pub loop-piece-init : goal.loop-piece-init
unfolding hashed
loop-piece-init c = refl

pub loop-piece-preserved : goal.loop-piece-preserved
unfolding hashed
loop-piece-preserved c = search rules
