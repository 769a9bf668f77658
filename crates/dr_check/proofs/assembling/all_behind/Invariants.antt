use Rattle.std.proofs.Common.{◌≡◌, map}
use Rattle.dr_check.specs.Course.{with_start}
use Rattle.dr_check.proofs.assembling.all_behind.Given as goal

abbrev pub invariant-loop-member : goal.invariant-loop-member
invariant-loop-member l = l.whole.items ≡ map (with_start l.start) l.yielded
