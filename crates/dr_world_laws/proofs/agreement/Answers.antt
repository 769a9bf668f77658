use Rattle.dr_machine.proofs.Runs.{run_reached}
use Rattle.dr_world_laws.proofs.Worlds.{agreed, known}
use Rattle.dr_world_laws.proofs.agreement.Goals as goal

pub returns : goal.returns
returns c = record {
  reached = λ g w is r. agreed g w is (known g w is r);
  events = λ g events w is r. agreed g w is (known g w is (run_reached g w events r));
}
