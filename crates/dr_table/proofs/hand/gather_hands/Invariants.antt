use Rattle.std.proofs.Common.{length}
use Rattle.dr_table.proofs.hand.gather_hands.Given as goal

abbrev pub ghosts-count_at : goal.ghosts-count_at
ghosts-count_at a = record { at = length a.board.now.members }
