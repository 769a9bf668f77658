use Rattle.dr_program.proofs.RunningPrograms.{act_may}
use Rattle.dr_seeing.proofs.deeds.news_of.Goals as goal

pub news_of_act-requires : goal.news_of_act-requires
news_of_act-requires c =
    let may = act_may c.args.member.now c.replica.result.now c.step.result c.in-Do.act c.requires.form
    c.requires.going c.replica.ensures c.step.ensures c.in-Do.is in
    record { place = may.0; may = may.1 }
