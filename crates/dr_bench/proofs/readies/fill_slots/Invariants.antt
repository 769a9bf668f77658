use Rattle.dr_bench.specs.Known.{IsOpen}
use Rattle.dr_bench.proofs.readies.fill_slots.Given as goal

abbrev pub invariant-loop-row : goal.invariant-loop-row
invariant-loop-row l = IsOpen l.shape l.rows

abbrev pub invariant-loop-slot : goal.invariant-loop-slot
invariant-loop-slot l = IsOpen l.shape l.rows

abbrev pub invariant-loop-part : goal.invariant-loop-part
invariant-loop-part l = IsOpen l.shape l.rows
