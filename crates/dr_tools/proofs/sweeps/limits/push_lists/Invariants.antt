use Rattle.std.proofs.Common.{◌≡◌, ◌++◌, drop}
use Rattle.dr_tools.specs.Limits.{lists_limits}
use Rattle.dr_tools.proofs.sweeps.limits.push_lists.Given as goal

abbrev pub invariant-loop-list : goal.invariant-loop-list
invariant-loop-list l = l.initial.limits.items ++ lists_limits l.lists
    ≡ l.limits.items ++ lists_limits (drop l.list-index l.lists)
