use Rattle.dr_commands.proofs.CheckOutcome.{check_done}
use Rattle.dr_commands.proofs.check.checking.check_report.Goals as goal

pub returns : goal.returns
returns c = λ yard. check_done c.args.bytes.now yard c.without_ages.result c.checked_line.result
    c.checked_line.ensures.checked (c.without_ages.ensures.alone yard)
