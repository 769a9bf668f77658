use Rattle.std.proofs.Common.{ap, sym, ◌∙◌, subst}
use Rattle.dr_play.proofs.Deeds.{at_act, at_give}
use Rattle.dr_served.specs.Appended.{is_append}
use Rattle.dr_program.specs.Running.{next_deed}
use Rattle.dr_threads.{specs.Course.HasGone, proofs.Runs.{gone_step, gone_sweeping, gone_taking}}
use Rattle.dr_threads.proofs.member.take.Goals as goal

pub returns-in-Look-clause-gone : goal.returns-in-Look-clause-gone
returns-in-Look-clause-gone g c = gone_sweeping _ _ _ _ c.args.log.now c.look_row.ensures.swept

pub returns-in-Push-clause-gone : goal.returns-in-Push-clause-gone
returns-in-Push-clause-gone g c = gone_sweeping _ _ _ _ c.args.log.now c.push_row.ensures.swept

pub returns-in-Act-clause-gone : goal.returns-in-Act-clause-gone
returns-in-Act-clause-gone g c =
    let r = c.args.seated.now.member in
    subst (λ q. HasGone g.D.Disk.told g.D.Disk.faults r c.args.log.now q c.args.log.now) (sym c.act.ensures.member)
    (gone_step _ _ r 0 c.args.log.now c.member.ensures.reached c.requires.going
    (at_act r _ _ (sym (c.in-Act.ensures.deed ∙ ap next_deed c.member.ensures.member))))

pub returns-in-Give-clause-gone : goal.returns-in-Give-clause-gone
returns-in-Give-clause-gone g c =
    let r = c.args.seated.now.member in
    subst (λ q. HasGone g.D.Disk.told g.D.Disk.faults r c.args.log.now q c.args.log.now) (sym c.give.ensures.member)
    (gone_step _ _ r 0 c.args.log.now c.member.ensures.reached c.requires.going
    (ap is_append (at_give r _ (sym (c.in-Give.ensures.deed ∙ ap next_deed c.member.ensures.member)))))

pub returns-in-Take-clause-gone : goal.returns-in-Take-clause-gone
returns-in-Take-clause-gone g c =
    gone_taking _ _ c.args.seated.now.member _ c.args.log.now c.member.ensures.reached c.requires.going
    (sym (c.in-Take.ensures.deed ∙ ap next_deed c.member.ensures.member)) c.take.ensures.asked
