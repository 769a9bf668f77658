use Rattle.std.proofs.Common.{◌≡◌, ◌++◌, drop}
use Rattle.dr_tools.specs.Limits.{limited_lists}
use Rattle.dr_tools.proofs.sweeps.limits.limited_lists.Given as goal

abbrev pub invariant-loop-list : goal.invariant-loop-list
invariant-loop-list l = limited_lists l.limits l.lists ≡ l.out.items ++ limited_lists l.left (drop l.list-index l.lists)
