use Rattle.std.proofs.Common.{string_bytes}
use Rattle.dr_tools.proofs.JudgeAnswers.{shown_if}
use Rattle.dr_tools.proofs.judging.verdict.push_difference.Goals as goal

pub returns : goal.returns
returns c =
    let found = c.in-Some.difference in
    shown_if c.push_told-2.result c.args.report.now c.args.line found.other.line found.entry.now found.other.entry.now
    (string_bytes c.args.out.now) (string_bytes c.push_told.new.out) (string_bytes c.push_told-2.new.out)
    c.in-Some.ensures.some c.in_ok-push_told.ensures c.push_told-2.ensures
