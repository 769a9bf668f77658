use Rattle.std.proofs.Common.{◌∙◌}
use Rattle.dr_program.proofs.RunningPrograms.{judged_as}
use Rattle.dr_member.specs.Search.{standing}
use Rattle.dr_member.proofs.judge.judged.Goals as goal

pub returns : goal.returns
returns c = λ place. c.unwrap_or.ensures
    ∙ judged_as (standing c.args.replica.now c.args.fate.now place) c.judgement.result c.me.result
    (c.judgement.ensures place) c.me.ensures.me
