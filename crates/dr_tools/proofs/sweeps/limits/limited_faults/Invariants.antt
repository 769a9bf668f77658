use Rattle.std.proofs.Common.{◌≡◌, ◌++◌, drop}
use Rattle.dr_tools.specs.Limits.{limited_faults}
use Rattle.dr_tools.proofs.sweeps.limits.limited_faults.Given as goal

abbrev pub invariant-loop-fault : goal.invariant-loop-fault
invariant-loop-fault l = limited_faults l.limits l.faults ≡ l.out.items ++ limited_faults l.left (drop l.fault-index l.faults)
