use Rattle.dr_program.proofs.StepsAt.{failed_form}
use Rattle.dr_turn.proofs.{Deeds.{deeds_keep, deeds_keep_form}, Failing.failed_done}
use Rattle.dr_turn.proofs.Takes.{takes_done, takes_keep_form}
use Rattle.dr_turn.proofs.laws.deeds_keep_members.Goals as goal

pub returns-clause-form : goal.returns-clause-form
returns-clause-form c = deeds_keep_form

pub returns-clause-done : goal.returns-clause-done
returns-clause-done c = λ word r m fits none form grown. (deeds_keep word r m fits none form grown).1

pub returns-clause-failed_form : goal.returns-clause-failed_form
returns-clause-failed_form c = failed_form

pub returns-clause-failed_done : goal.returns-clause-failed_done
returns-clause-failed_done c = failed_done

pub returns-clause-took_form : goal.returns-clause-took_form
returns-clause-took_form c = takes_keep_form

pub returns-clause-took_done : goal.returns-clause-took_done
returns-clause-took_done c = takes_done
