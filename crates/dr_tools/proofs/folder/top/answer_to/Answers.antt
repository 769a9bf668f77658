use Rattle.std.proofs.Common.{Err, ap}
use Rattle.dr_intake.proofs.Answers.{refused_if, script_if}
use Rattle.dr_script.specs.Reading.{reading_of}
use Rattle.dr_tools.specs.Folder.{IsFolderAnswer}
use Rattle.dr_tools.proofs.folder.top.answer_to.Goals as goal

pub returns-in-Ok : goal.returns-in-Ok
returns-in-Ok g c = script_if IsFolderAnswer c.answer_to_script.result (reading_of c.args.bytes.now) c.in-Ok.script
    c.in-Ok.ensures.script c.answer_to_script.ensures

pub returns-in-Err : goal.returns-in-Err
returns-in-Err g c = refused_if IsFolderAnswer c.of_refusal.result (reading_of c.args.bytes.now) c.in-Err.line
    (λ line is. c.in-Err.ensures.refusal line (ap Err is)) c.of_refusal.ensures
