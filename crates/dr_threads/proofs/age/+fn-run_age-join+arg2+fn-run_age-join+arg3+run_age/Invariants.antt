use Rattle.std.proofs.Common.{◌+◌, ◌*◌, length}
use Rattle.dr_threads.proofs.age.+fn-run_age-join+arg2+fn-run_age-join+arg3+run_age.Given as goal

abbrev pub decreases-join+arg2 : goal.decreases-join+arg2
decreases-join+arg2 g l = 2 * length l.left.members + 1

abbrev pub decreases-join+arg3 : goal.decreases-join+arg3
decreases-join+arg3 g l = 2 * length l.right.members + 1

abbrev pub decreases-run_age : goal.decreases-run_age
decreases-run_age g l = 2 * length l.hand.members
