use Rattle.dr_program.proofs.Deeds.{missed_stays, no_step_no_change, rest_changes_nothing}
use Rattle.dr_refine.proofs.{Deeds.{deed_is_step, step_reached}, Steps.{begun_is_program, step_kept}}
use Rattle.dr_refine.proofs.laws.deeds_are_steps.Goals as goal

pub returns-clause-may_come : goal.returns-clause-may_come
returns-clause-may_come c g p e r s group is letters there named = (deed_is_step g p e r s group is letters there named).0

pub returns-clause-happens : goal.returns-clause-happens
returns-clause-happens c g p e r s group is letters there named = (deed_is_step g p e r s group is letters there named).1

pub returns-clause-rests : goal.returns-clause-rests
returns-clause-rests c = rest_changes_nothing

pub returns-clause-stays : goal.returns-clause-stays
returns-clause-stays c = no_step_no_change

pub returns-clause-misses : goal.returns-clause-misses
returns-clause-misses c = missed_stays

pub returns-clause-reached : goal.returns-clause-reached
returns-clause-reached c = step_reached

pub returns-clause-begins : goal.returns-clause-begins
returns-clause-begins c = begun_is_program

pub returns-clause-keeps : goal.returns-clause-keeps
returns-clause-keeps c = step_kept
