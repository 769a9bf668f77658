use Rattle.std.proofs.Common.{sym, subst}
use Rattle.dr_quorum.specs.Knowing.{IsGreatestAge, age_of_view}
use Rattle.dr_quorum.proofs.Knowing.{IsViewOf, all_known, more_known, none_known, option_known, views_known}
use Rattle.dr_quorum.proofs.ages.latest_view.Goals as goal

pub loop-entry-init : goal.loop-entry-init
loop-entry-init c = none_known IsViewOf

pub loop-entry-preserved : goal.loop-entry-preserved
loop-entry-preserved c =
    more_known IsViewOf c.args.entries.now c.loop-entry.entry-index c.entry-item.result c.loop-entry.best
    c.later-best.result c.age_of_view.result c.loop-entry-test.true c.entry-item.is c.loop-entry.invariant
    (subst (IsGreatestAge (IsViewOf c.entry-item.result)) (sym c.age_of_view.ensures)
    (option_known (age_of_view c.entry-item.result))) c.later-best.ensures

pub returns : goal.returns
returns c = views_known c.args.entries.now c.loop-entry.best
    (all_known IsViewOf c.args.entries.now c.loop-entry.entry-index c.loop-entry.best c.loop-entry-test.false
    c.loop-entry.invariant)
