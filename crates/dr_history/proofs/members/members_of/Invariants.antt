use Rattle.std.proofs.Common.{◌≡◌}
use Rattle.dr_history.specs.Members.{members_below}
use Rattle.dr_history.proofs.members.members_of.Given as goal

abbrev pub invariant-loop-n : goal.invariant-loop-n
invariant-loop-n l = l.members.items ≡ members_below l.mask l.n
