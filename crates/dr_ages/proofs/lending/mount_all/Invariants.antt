use Rattle.std.proofs.Common.{◌≡◌, ◌≤◌, ℕ, length, vec_capacity}
use Rattle.dr_yard.specs.Yards.{state_by}
use Rattle.dr_ages.specs.{Lent.{AreAllBut, AreLent, AreMounted}, Passing.AreUntouched}
use Rattle.dr_ages.proofs.lending.mount_all.Given as goal

abbrev pub invariant-loop-member : goal.invariant-loop-member
invariant-loop-member g l = (length l.logs.items ≡ l.member) × (l.members ≤ vec_capacity l.logs)
    × AreLent g.Y.Yard.is_lent g.Y.Yard.faults g.Y.Store.Disk.faults l.yard l.logs.items
    × AreMounted g.Y.Store.Disk.told g.Y.Store.Disk.faults
    (state_by g.Y.Yard.told g.Y.Yard.faults l.fn.yard) l.logs.items
    × ((m : ℕ) → l.member ≤ m → (g.Y.Yard.told l.yard m ≡ g.Y.Yard.told l.fn.yard m)
    × (g.Y.Yard.faults l.yard m ≡ g.Y.Yard.faults l.fn.yard m)) × AreAllBut l.part.missing l.logs.items
    × AreUntouched l.part.missing (state_by g.Y.Yard.told g.Y.Yard.faults l.fn.yard)
    (state_by g.Y.Yard.told g.Y.Yard.faults l.yard)
