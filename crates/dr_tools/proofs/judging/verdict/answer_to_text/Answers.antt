use Rattle.std.proofs.Common.{◌∙◌, ap, string_bytes}
use Rattle.dr_intake.specs.Status.{status_of}
use Rattle.dr_text.specs.Report.{last_text}
use Rattle.dr_tools.proofs.JudgeAnswers.{verdict_told}
use Rattle.dr_tools.proofs.judging.verdict.answer_to_text.Goals as goal

pub returns : goal.returns
returns c = verdict_told c.args.script.now c.args.text.now c.in_ok-verdict.verdict
    (string_bytes c.in_ok-answer.answer.text) (string_bytes c.push_behind.new.out) c.in_ok-answer.answer.status
    c.in_ok-verdict.ensures (c.in_ok-answer.ensures.text ∙ ap last_text c.line.ensures)
    (c.in_ok-answer.ensures.due ∙ ap status_of c.line.ensures) c.in_ok-push_behind.ensures
