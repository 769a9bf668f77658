use Rattle.std.proofs.Common.{length}
use Rattle.dr_table.proofs.hand.+move_tail.Given as goal

abbrev pub decreases-move_tail : goal.decreases-move_tail
decreases-move_tail l = length l.from.now.items
