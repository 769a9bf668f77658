use Rattle.dr_program.proofs.{RunningPrograms.settled_end, Search.settle_only}
use Rattle.dr_turn.proofs.Search.{settle_passed, settled_due, settled_running, settle_less}
use Rattle.dr_turn.proofs.laws.the_search_goes_to_the_next_place.Goals as goal

pub returns-clause-first : goal.returns-clause-first
returns-clause-first c = λ r. settle_passed _ r

pub returns-clause-due : goal.returns-clause-due
returns-clause-due c = settled_due

pub returns-clause-rests : goal.returns-clause-rests
returns-clause-rests c = settled_end

pub returns-clause-form : goal.returns-clause-form
returns-clause-form c = settled_running

pub returns-clause-only : goal.returns-clause-only
returns-clause-only c = λ r. settle_only _ r

pub returns-clause-less : goal.returns-clause-less
returns-clause-less c = λ r u. settle_less _ r u
