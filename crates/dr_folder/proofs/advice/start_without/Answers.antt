use Rattle.std.{specs.Prelude.Err, proofs.Common.{ap, inr}}
use Rattle.dr_folder.proofs.advice.start_without.Goals as goal

pub returns-clause-start : goal.returns-clause-start
returns-clause-start c = inr (
  c.in-Err-Some.field-0-0,
  c.in-Err-Some.ensures.barred c.in-Err-Some.field-0-0 (ap Err c.in-Err-Some.field-0-is),
)
