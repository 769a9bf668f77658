use Rattle.dr_check.proofs.Telling.{told}
use Rattle.dr_check.proofs.laws.printed_ages_are_reports.Goals as goal

pub returns : goal.returns
returns c = told
