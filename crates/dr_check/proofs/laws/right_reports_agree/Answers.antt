use Rattle.dr_check.proofs.RightReports.{all_agreed, keeps_before}
use Rattle.dr_check.proofs.laws.right_reports_agree.Goals as goal

pub returns : goal.returns
returns c = record {
  agreed = all_agreed c.args._script.now c.args._report.now c.requires.right c.requires.whole;
  kept = keeps_before c.args._script.now c.args._report.now c.requires.right;
}
