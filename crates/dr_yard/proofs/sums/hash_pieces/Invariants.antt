use Rattle.std.proofs.Common.{◌≡◌}
use Rattle.dr_yard.specs.Checksums.{hashed, with_piece}
use Rattle.dr_yard.proofs.sums.hash_pieces.Given as goal

-- the pieces so far are taken
abbrev pub invariant-loop-piece : goal.invariant-loop-piece
invariant-loop-piece l = l.hasher ≡ hashed with_piece l.initial.hasher l.pieces l.piece
