use Rattle.std.proofs.Common.{◌≡◌, ◌++◌, drop}
use Rattle.dr_tools.specs.Limits.{faults_limits}
use Rattle.dr_tools.proofs.sweeps.limits.push_faults.Given as goal

abbrev pub invariant-loop-fault : goal.invariant-loop-fault
invariant-loop-fault l = l.initial.limits.items ++ faults_limits l.faults
    ≡ l.limits.items ++ faults_limits (drop l.fault-index l.faults)
