use Rattle.std.proofs.Common.{Err, ap}
use Rattle.dr_intake.proofs.Answers.{refused_if, script_if}
use Rattle.dr_script.specs.Reading.{reading_of}
use Rattle.dr_tools.specs.Judged.{SaysOfBytes}
use Rattle.dr_tools.proofs.judging.verdict.answer_for.Goals as goal

pub returns-in-Ok : goal.returns-in-Ok
returns-in-Ok c = script_if (SaysOfBytes c.args.text.now) c.answer_to_bytes.result
    (reading_of c.args.script.now) c.in-Ok.script c.in-Ok.ensures.script c.answer_to_bytes.ensures

pub returns-in-Err : goal.returns-in-Err
returns-in-Err c =
    refused_if (SaysOfBytes c.args.text.now) c.of_refusal.result (reading_of c.args.script.now) c.in-Err.line
    (λ line is. c.in-Err.ensures.refusal line (ap Err is)) c.of_refusal.ensures
