use Rattle.dr_program.proofs.{Opening.begins_at_the_opening, OpeningForm.{begins_in_form, can_begin}}
use Rattle.dr_program.proofs.laws.programs_begin_at_the_opening.Goals as goal

pub returns-clause-world : goal.returns-clause-world
returns-clause-world c = begins_at_the_opening

pub returns-clause-form : goal.returns-clause-form
returns-clause-form c g limit m s is some within setup = begins_in_form g limit m s is some setup

pub returns-clause-begin : goal.returns-clause-begin
returns-clause-begin c g limit m s is within setup = can_begin g limit m s is setup
