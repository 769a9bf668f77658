use Rattle.std.{specs.Prelude.vec_capacity, proofs.Common.{◌≡◌, ◌≤◌, ◌++◌, take}}
use Rattle.dr_log.proofs.shelves.push_all.Given as goal

abbrev pub invariant-loop-i : goal.invariant-loop-i
invariant-loop-i l = record {
  items : l.entries.items ≡ l.fn.entries.items ++ take l.i l.first;
  places : vec_capacity l.fn.entries ≤ vec_capacity l.entries;
}
