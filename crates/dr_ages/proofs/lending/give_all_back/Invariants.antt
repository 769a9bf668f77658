use Rattle.dr_yard.specs.Yards.{state_by}
use Rattle.dr_ages.{specs.Lent.AreLent, proofs.Backs.AreBack}
use Rattle.dr_ages.proofs.lending.give_all_back.Given as goal

abbrev pub invariant-loop-place : goal.invariant-loop-place
invariant-loop-place g l = AreLent g.Y.Yard.is_lent g.Y.Yard.faults g.Y.Store.Disk.faults l.yard l.logs.items
    × AreBack g.Y.Store.Disk.told g.Y.Store.Disk.faults (state_by g.Y.Yard.told g.Y.Yard.faults l.fn.yard)
    l.fn.logs.items (state_by g.Y.Yard.told g.Y.Yard.faults l.yard) l.logs.items

abbrev pub decreases-loop-place : goal.decreases-loop-place
decreases-loop-place g l = goal.left-loop-place g l
