use Rattle.dr_kept.proofs.Returning.{refused_behind}
use Rattle.dr_kept.proofs.laws.later_ages_lack_a_number_alone.Goals as goal

pub returns : goal.returns
returns c = refused_behind
