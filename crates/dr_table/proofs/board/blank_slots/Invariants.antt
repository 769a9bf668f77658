use Rattle.std.{specs.Prelude.vec_capacity, proofs.Common.{◌≡◌, ◌≤◌, All, length}}
use Rattle.dr_table.specs.Slots.{IsBlankSlot}
use Rattle.dr_table.proofs.board.blank_slots.Given as goal

abbrev pub invariant-loop : goal.invariant-loop
invariant-loop l = record {
  count : length l.slots.items ≡ l.counter;
  blank : All (IsBlankSlot l.room) l.slots.items;
  more : l.count ≤ vec_capacity l.slots;
}
