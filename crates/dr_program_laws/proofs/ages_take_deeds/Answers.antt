use Rattle.dr_program.proofs.Runs.{lockstep_taken}
use Rattle.dr_restart.proofs.Setups.{age_begins_reached}
use Rattle.dr_program_laws.proofs.ages_take_deeds.Goals as goal
use Rattle.dr_program_laws.proofs.Programs.{begun_program_of}

pub returns : goal.returns
returns c = record {
  form = begun_program_of;
  reached = age_begins_reached;
  lockstep = lockstep_taken;
  seeded = λ seed begun es p run. run.ran;
}
