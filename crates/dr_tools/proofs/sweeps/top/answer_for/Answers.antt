use Rattle.std.proofs.Common.{Err, ap}
use Rattle.dr_intake.proofs.Answers.{refused_if, script_if}
use Rattle.dr_script.specs.Reading.{reading_of}
use Rattle.dr_tools.specs.SweepAnswer.{IsDone}
use Rattle.dr_tools.proofs.sweeps.top.answer_for.Goals as goal

pub returns-in-Ok-clause-answer : goal.returns-in-Ok-clause-answer
returns-in-Ok-clause-answer g c = script_if (IsDone c.args.task.now) c.answer_to_script.result
    (reading_of c.args.bytes.now) c.in-Ok.script c.in-Ok.ensures.script c.answer_to_script.ensures.answer

pub returns-in-Err-clause-answer : goal.returns-in-Err-clause-answer
returns-in-Err-clause-answer g c =
    refused_if (IsDone c.args.task.now) c.of_refusal.result (reading_of c.args.bytes.now) c.in-Err.line
    (λ line is. c.in-Err.ensures.refusal line (ap Err is)) c.of_refusal.ensures
