use Rattle.std.proofs.Common.{rules, sym, subst}
use Rattle.dr_ages.specs.{Watched.AreWatched, declared.mode.Mode.TheVariants.Sim}
use Rattle.dr_progress.{specs.Progress.Waits, proofs.Besides.{beside_watched, bound_waits, waits_both}}
use Rattle.dr_progress.proofs.watching.watch_beside.Goals as goal

pub returns-clause-watched : goal.returns-clause-watched
returns-clause-watched g c =
    let outcome = c.watch_in_memory in
    let both = beside_watched g.W.Watcher.opens g.W.Watcher.sees g.W.Watcher.closes c.args.script.now c.args.part.now 0
    outcome.result.ages _ outcome.new.watcher outcome.ensures.watched in
    let places = both.1.1 in
    subst (AreWatched g.W.Watcher.opens g.W.Watcher.sees g.W.Watcher.closes Sim c.args.script.now c.args.part.now 0
    outcome.result.ages c.args.watcher.now) (sym (search rules)) both.0

pub returns-clause-waits : goal.returns-clause-waits
returns-clause-waits g c =
    let outcome = c.watch_in_memory in
    let both = beside_watched g.W.Watcher.opens g.W.Watcher.sees g.W.Watcher.closes c.args.script.now c.args.part.now 0
    outcome.result.ages _ outcome.new.watcher outcome.ensures.watched in
    let places = both.1.1 in
    waits_both c.args.progress.now c.bound.new.self _
    (bound_waits c.args.progress.now c.bound.new.self c.args.script.now.turns c.bound.ensures)
    (subst (Waits c.bound.new.self) (sym (search rules)) both.1.0)
