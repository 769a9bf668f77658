use Rattle.dr_kept.proofs.Behind.{held_behind, opened_behind, reached_behind}
use Rattle.dr_kept.proofs.laws.ages_leave_what_holds.Goals as goal

pub returns : goal.returns
returns c = record { reached = reached_behind; left = held_behind; behind = opened_behind }
