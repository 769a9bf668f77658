use Rattle.std.proofs.Common.{◌≡◌, ◌≤◌, ◌<◌, ℕ, false, length, vec_capacity}
use Rattle.dr_entry.specs.declared.limits.TheConstants.{MAX_MEMBERS}
use Rattle.dr_yard.specs.Yards.{state_by}
use Rattle.dr_ages.specs.{Ages.AreAges, Watched.AreWatched}
use Rattle.dr_ages.proofs.ages.watch_ages.Given as goal

abbrev pub invariant-loop-nth : goal.invariant-loop-nth
invariant-loop-nth g l = (length l.ages.items ≡ l.nth) × (l.script.ages ≤ vec_capacity l.ages)
    × ((m : ℕ) → m < MAX_MEMBERS → g.Y.Yard.is_lent l.yard m ≡ false) × AreAges l.script l.part l.mode 0
    (state_by g.Y.Yard.told g.Y.Yard.faults l.fn.yard) l.ages.items (state_by g.Y.Yard.told g.Y.Yard.faults l.yard)
    × AreWatched g.W.Watcher.opens g.W.Watcher.sees g.W.Watcher.closes l.mode l.script l.part 0 l.ages.items
    l.fn.watcher l.watcher
