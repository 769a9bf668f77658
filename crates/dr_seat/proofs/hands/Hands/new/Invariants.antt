use Rattle.std.proofs.Common.{◌-◌, ◌≤◌, length}
use Rattle.dr_seat.proofs.hands.Hands.new.Given as goal

abbrev pub invariant-loop-alloc : goal.invariant-loop-alloc
invariant-loop-alloc l = length l.hands.items ≤ 16

abbrev pub decreases-loop-alloc : goal.decreases-loop-alloc
decreases-loop-alloc l = 16 - length l.hands.items
