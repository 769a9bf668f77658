use Rattle.dr_program_laws.proofs.{Ending.{net_agreed, net_causes, net_ended}, Failing.net_fails, Nets.net_kept}
use Rattle.dr_program_laws.proofs.Trusting.{net_trusts}
use Rattle.dr_program_laws.proofs.nets_keep_programs.Goals as goal

pub returns : goal.returns
returns c = record {
  program = net_kept;
  agree = net_agreed;
  ends = net_ended;
  causes = net_causes;
  failing = net_fails;
  trusting = net_trusts;
}
