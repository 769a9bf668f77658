use Rattle.dr_member.proofs.Fates.{acts_keep_bases}
use Rattle.dr_member.proofs.acts.take_act.Goals as goal

pub returns-in_default-clause-bases : goal.returns-in_default-clause-bases
returns-in_default-clause-bases c = λ are.
    acts_keep_bases c.args.bases.now c.args.act c.args.replica.now _ c.in_default.not-Finish are
    c.take-in_default.ensures.after
