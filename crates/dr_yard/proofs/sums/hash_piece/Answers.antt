use Rattle.std.proofs.Common.{rules}
use Rattle.dr_yard.specs.Checksums.{with_piece}
use Rattle.dr_yard.proofs.sums.hash_piece.Goals as goal

pub returns : goal.returns
unfolding with_piece
returns c = search rules
