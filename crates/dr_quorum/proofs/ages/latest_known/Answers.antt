use Rattle.dr_restart.specs.Choosing.{HasAge}
use Rattle.dr_quorum.{specs.Knowing.OfLog, proofs.Knowing.{all_known, lists_known, more_known, none_known}}
use Rattle.dr_quorum.proofs.ages.latest_known.Goals as goal

pub loop-list-init : goal.loop-list-init
loop-list-init c = none_known (OfLog HasAge)

pub loop-list-preserved : goal.loop-list-preserved
loop-list-preserved c =
    more_known (OfLog HasAge) c.args.lists.now c.loop-list.list-index c.list-item.result c.loop-list.best
    c.later-best.result c.latest_there.result c.loop-list-test.true c.list-item.is c.loop-list.invariant
    c.latest_there.ensures c.later-best.ensures

pub returns : goal.returns
returns c = lists_known HasAge c.args.lists.now c.loop-list.best
    (all_known (OfLog HasAge) c.args.lists.now c.loop-list.list-index c.loop-list.best c.loop-list-test.false
    c.loop-list.invariant)
