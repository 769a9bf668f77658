use Rattle.dr_refine.proofs.{Joins.join_effect, Tests.step_effect}
use Rattle.dr_refine.proofs.laws.steps_are_effects.Goals as goal

pub returns-clause-steps : goal.returns-clause-steps
returns-clause-steps c = step_effect

pub returns-clause-joins : goal.returns-clause-joins
returns-clause-joins c = join_effect
