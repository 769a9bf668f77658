use Rattle.std.proofs.{Common.arith, lemmas.{Grind.common_steps, List.Elements.filter_map-append}}
use Rattle.dr_restart.proofs.setup.faults_of.Goals as goal
use Rattle.dr_restart.proofs.setup.faults_of.Goals.{then-fault-nth-via-then-fault-nth, then-fault-nth-via-else-fault-nth+then-fault-me, in-Crash+in_ok-push-in-Crash, in-Suspect+in_ok-push-in-Suspect}

pub loop-fault-preserved-then-fault-nth : goal.loop-fault-preserved-then-fault-nth
loop-fault-preserved-then-fault-nth c = elim c.then-fault-nth.branch [
  | then-fault-nth-via-then-fault-nth w ↦ grind (arith, common_steps, filter_map-append)
  | then-fault-nth-via-else-fault-nth+then-fault-me w ↦ grind (arith, common_steps, filter_map-append)
]

pub loop-fault-preserved : goal.loop-fault-preserved
loop-fault-preserved c = elim c.match-fault.branch [
  | in-Crash+in_ok-push-in-Crash w ↦ grind (arith, common_steps, filter_map-append)
  | in-Suspect+in_ok-push-in-Suspect w ↦ grind (arith, common_steps, filter_map-append)
]
