-- So far the crashes and the suspicions are those of the faults that were gone through.
use Rattle.std.proofs.Common.{◌≡◌, take}
use Rattle.dr_restart.specs.Setups.{crashes_of, suspicions_of}
use Rattle.dr_restart.proofs.setup.faults_of.Given as goal

abbrev pub invariant-loop-fault : goal.invariant-loop-fault
invariant-loop-fault l = record {
  crashes : l.crashes.items ≡ crashes_of (take l.fault-index l.faults) l.nth l.me;
  suspicions : l.suspicions.items ≡ suspicions_of (take l.fault-index l.faults) l.nth l.me;
}
