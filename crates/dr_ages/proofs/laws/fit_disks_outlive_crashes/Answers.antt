use Rattle.std.proofs.Common.{[]}
use Rattle.dr_ages.proofs.{InStep.{blank_step, crashed_step}, Lasting.{blank_fit, crashed_lasting}}
use Rattle.dr_ages.proofs.laws.fit_disks_outlive_crashes.Goals as goal

pub returns-clause-begins : goal.returns-clause-begins
returns-clause-begins c script yard blank = (blank_fit script yard blank, blank_step script yard blank)

pub returns-clause-keeps : goal.returns-clause-keeps
returns-clause-keeps c script before after fit crashed = crashed_lasting script before after [] fit crashed

pub returns-clause-in_step : goal.returns-clause-in_step
returns-clause-in_step c = crashed_step
