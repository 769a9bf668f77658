use Rattle.dr_check.proofs.Flawless.{unflawed}
use Rattle.dr_check.proofs.laws.right_reports_are_flawless.Goals as goal

pub returns : goal.returns
returns c = unflawed
