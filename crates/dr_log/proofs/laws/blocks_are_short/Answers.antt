use Rattle.dr_entry.proofs.Records.{short_block}
use Rattle.dr_log.proofs.Growing.{short_log_length}
use Rattle.dr_log.proofs.laws.blocks_are_short.Goals as goal

pub returns-clause-block : goal.returns-clause-block
returns-clause-block c = short_block

pub returns-clause-log : goal.returns-clause-log
returns-clause-log c = short_log_length
