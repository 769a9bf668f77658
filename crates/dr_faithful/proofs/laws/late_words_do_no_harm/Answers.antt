use Rattle.dr_faithful.proofs.Late.{arrived_grew, arrived_keeps, backed_arrived, backed_begins, backed_event}
use Rattle.dr_faithful.proofs.laws.late_words_do_no_harm.Goals as goal

pub returns-clause-begins : goal.returns-clause-begins
returns-clause-begins c = backed_begins

pub returns-clause-keeps : goal.returns-clause-keeps
returns-clause-keeps c = backed_event

pub returns-clause-arrive : goal.returns-clause-arrive
returns-clause-arrive c = λ g V before w table f come y. (
  arrived_keeps g V before w table come y f,
  backed_arrived g V before w table f come y,
  arrived_grew g V before w table f come y,
)
