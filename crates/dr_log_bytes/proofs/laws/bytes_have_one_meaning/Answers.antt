use Rattle.dr_log_bytes.proofs.Meaning.{content_once, damaged_once, log_once, stands_or_damaged}
use Rattle.dr_log_bytes.proofs.laws.bytes_have_one_meaning.Goals as goal

pub returns : goal.returns
returns c = record { content = content_once; place = damaged_once; either = stands_or_damaged; records = log_once }
