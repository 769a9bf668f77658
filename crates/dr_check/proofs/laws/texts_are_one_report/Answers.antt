use Rattle.dr_check.proofs.OneReport.{one_report}
use Rattle.dr_check.proofs.laws.texts_are_one_report.Goals as goal

pub returns : goal.returns
returns c = one_report
