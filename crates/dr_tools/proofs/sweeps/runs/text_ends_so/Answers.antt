use Rattle.std.proofs.{Common.{◌≡◌, Some, rules}, lemmas.Result.IfOk-weaker}
use Rattle.dr_intake.specs.Reading.{refusal_in}
use Rattle.dr_script.specs.Reading.{Reads, reading_of}
use Rattle.dr_tools.proofs.Simulating.{reads_so, refused_so}
use Rattle.dr_tools.proofs.sweeps.runs.text_ends_so.Goals as goal

pub returns-in-Ok-clause-outcome : goal.returns-in-Ok-clause-outcome
returns-in-Ok-clause-outcome g c =
    let is : reading_of c.args.text.now ≡ Reads c.in-Ok.script = search rules in
    IfOk-weaker c.read_ends_so.result _ _ (λ shows ends. reads_so
    (reading_of c.args.text.now) c.in-Ok.script c.args.late c.args.wanted.now shows is ends) c.read_ends_so.ensures.outcome

pub returns-in-Err-Some-clause-outcome : goal.returns-in-Err-Some-clause-outcome
returns-in-Err-Some-clause-outcome g c =
    let is : refusal_in (reading_of c.args.text.now) ≡ Some c.in-Err-Some.field-0-0 = search rules in
    refused_so (reading_of c.args.text.now) c.in-Err-Some.field-0-0 c.args.late c.args.wanted.now is
