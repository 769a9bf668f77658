use Rattle.dr_ages.proofs.{Lasting.crashed_lasting, Outliving.{run_begins, run_durable, run_lasting, run_since}}
use Rattle.dr_ages.proofs.laws.durable_entries_outlive_runs.Goals as goal

pub returns-clause-lasts : goal.returns-clause-lasts
returns-clause-lasts c = run_lasting

pub returns-clause-durable : goal.returns-clause-durable
returns-clause-durable c = run_durable

pub returns-clause-crashed : goal.returns-clause-crashed
returns-clause-crashed c = crashed_lasting

pub returns-clause-begins : goal.returns-clause-begins
returns-clause-begins c = run_begins

pub returns-clause-since : goal.returns-clause-since
returns-clause-since c = run_since
