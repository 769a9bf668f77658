use Rattle.dr_program.proofs.RunningPrograms.{act_may}
use Rattle.dr_seeing.proofs.deeds.push_line.Goals as goal

pub push_done-requires : goal.push_done-requires
push_done-requires c =
    let may = act_may c.args.member.now c.replica-replica.result.now c.step.result c.in-Do.act c.requires.form
    c.requires.going c.replica-replica.ensures c.step.ensures c.in-Do.is in
    record { place = may.0; may = may.1 }
