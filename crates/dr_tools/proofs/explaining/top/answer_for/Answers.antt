use Rattle.std.proofs.Common.{◌≡◌, Some, rules}
use Rattle.dr_intake.specs.Reading.{refusal_in}
use Rattle.dr_script.specs.Reading.{Reads, reading_of}
use Rattle.dr_tools.proofs.ExplainLines.{refused_if, script_if}
use Rattle.dr_tools.proofs.explaining.top.answer_for.Goals as goal

pub returns-in-Ok : goal.returns-in-Ok
returns-in-Ok c =
    let is : reading_of c.args.bytes.now ≡ Reads c.in-Ok.script = search rules in
    script_if c.answer_to_script.result (reading_of c.args.bytes.now) c.in-Ok.script is
    c.answer_to_script.ensures.turns c.answer_to_script.ensures.due

pub returns-in-Err-Some : goal.returns-in-Err-Some
returns-in-Err-Some c =
    let is : refusal_in (reading_of c.args.bytes.now) ≡ Some c.in-Err-Some.line = search rules in
    refused_if c.answer_to_refusal.result (reading_of c.args.bytes.now) c.in-Err-Some.line is
    c.answer_to_refusal.ensures.begins c.answer_to_refusal.ensures.due
