use Rattle.std.proofs.Common.{◌∙◌, rules}
use Rattle.dr_outcome.proofs.Lasts.{first_behind}
use Rattle.dr_outcome.proofs.last.first_end.Goals as goal

pub loop-age-preserved : goal.loop-age-preserved
loop-age-preserved c = c.loop-age.invariant
    ∙ first_behind c.args.kind c.args.ages.now c.loop-age.age-index c.age-item.result (search rules) (search rules)
