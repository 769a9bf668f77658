use Rattle.dr_world.proofs.Beginning.{begun_none, begun_more}
use Rattle.dr_world.proofs.opening.replicas_of.Goals as goal

pub loop-me-init : goal.loop-me-init
loop-me-init c = begun_none c.args.script.now c.args.start.now c.in_ok-replicas.replicas.items
    c.in_ok-replicas.ensures.items

pub loop-me-preserved : goal.loop-me-preserved
loop-me-preserved c = begun_more c.args.script.now c.args.start.now c.loop-me.me c.loop-me.replicas.items
    c.push.new.self.items c.in_ok-replica_of.field-0
    c.loop-me.invariant c.in_ok-replica_of.ensures c.in_ok-push.ensures.items
