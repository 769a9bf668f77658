use Rattle.dr_ages.{specs.Ages.start_of, proofs.{Good.found_whole, InStep.{step_good, whole_front}}}
use Rattle.dr_ages.proofs.laws.ages_in_step_start_with_all.Goals as goal

pub returns : goal.returns
returns c script part mode nth before after age m content ranges none step is at =
    whole_front script before is.contents (start_of script part age) m content ranges.group
    (step_good script before step) (found_whole script.members part.missing before is.contents none is.found) is.starts at
