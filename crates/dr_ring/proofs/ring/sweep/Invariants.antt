use Rattle.std.proofs.Common.{◌+◌}
use Rattle.dr_entry.proofs.Bits.{Marks}
use Rattle.dr_ring.specs.Slots.{IsReady, slot_of}
use Rattle.dr_ring.proofs.ring.sweep.Given as goal

abbrev pub invariant-loop-i : goal.invariant-loop-i
invariant-loop-i l = Marks (λ j. IsReady (l.k + j) (slot_of l.shape.window l.rows l.row (l.k + j))) l.mask l.i
