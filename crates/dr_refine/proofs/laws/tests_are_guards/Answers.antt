use Rattle.dr_refine.proofs.Tests.{step_test}
use Rattle.dr_refine.proofs.laws.tests_are_guards.Goals as goal

pub returns : goal.returns
returns c = step_test
