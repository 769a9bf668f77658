use Rattle.std.proofs.Common.{sym, subst}
use Rattle.dr_check.{specs.{Course.read_from, Grammar.IsReport}, proofs.Ending.{report_of, same_report}}
use Rattle.dr_check.proofs.reading.parse.Goals as goal

pub returns-clause-report : goal.returns-clause-report
returns-clause-report c = subst (IsReport c.args.script.now.members c.args.text.now)
    (sym (same_report c.in_ok-report_of.field-0 (read_from 1 c.in_ok-lines.lines.items).ages
    c.in_ok-report_of.ensures))
    (report_of c.args.script.now.members c.args.text.now c.in_ok-lines.lines.items c.in_ok-lines.ensures.lines)
