use Rattle.dr_calls.proofs.Lasting.{begins, durable, lasts}
use Rattle.dr_calls.proofs.laws.calls_keep_what_lasts.Goals as goal

pub returns : goal.returns
returns c = record { lasts = lasts; begins = begins; durable = durable }
