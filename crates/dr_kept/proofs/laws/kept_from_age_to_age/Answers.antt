use Rattle.dr_kept.proofs.Following.{next_begins, next_keeps, next_number}
use Rattle.dr_kept.proofs.laws.kept_from_age_to_age.Goals as goal

pub returns : goal.returns
returns c = record { kept = next_keeps; begins = next_begins; numbered = next_number }
