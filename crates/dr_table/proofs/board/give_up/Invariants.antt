use Rattle.std.specs.Mem.Slots.{slots_filled, slots_len, Ownership.Filled}
use Rattle.std.proofs.Common.{◌≡◌, ℕ, ◌-◌, ◌<◌, false, get_or}
use Rattle.dr_table.proofs.board.give_up.Given as goal

-- the slots before this one are empty, and the others are not
abbrev pub invariant-loop-i : goal.invariant-loop-i
invariant-loop-i l = Filled (slots_filled l.closed.slots) l.i (slots_len l.closed.slots)
    × ((k : ℕ) → k < l.i → get_or (slots_filled l.closed.slots) k false ≡ false)

abbrev pub decreases-loop-i : goal.decreases-loop-i
decreases-loop-i l = slots_len l.closed.slots - l.i
