use Rattle.dr_kept.proofs.Lasting.{durable_lasts, hold_behind, start_has, still_lasts}
use Rattle.dr_kept.proofs.laws.ages_keep_what_lasts.Goals as goal

pub returns : goal.returns
returns c = record { begins = start_has; since = hold_behind; lasts = still_lasts; durable = durable_lasts }
