use Rattle.dr_commands.proofs.CheckStatuses.{ends_well}
use Rattle.dr_commands.proofs.check.verdict.checked_line.Goals as goal

pub returns-clause-ends : goal.returns-clause-ends
returns-clause-ends c = ends_well c.args.bytes.now c.line_on.result c.line_on.ensures
