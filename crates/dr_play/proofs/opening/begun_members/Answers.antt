use Rattle.dr_play.proofs.Beginning.{begun_none, begun_more}
use Rattle.dr_play.proofs.opening.begun_members.Goals as goal

pub loop-me-init : goal.loop-me-init
loop-me-init c = begun_none c.args.script.now c.args.start.now c.args.nth c.in_ok-members.members.items
    c.in_ok-members.ensures.items

pub loop-me-preserved : goal.loop-me-preserved
loop-me-preserved c = begun_more c.args.script.now c.args.start.now c.args.nth c.loop-me.me c.loop-me.members.items
    c.push.new.self.items c.in_ok-begun_member.field-0
    c.loop-me.invariant c.in_ok-begun_member.ensures c.in_ok-push.ensures.items
