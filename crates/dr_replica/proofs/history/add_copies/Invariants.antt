use Rattle.std.{specs.Prelude.vec_capacity, proofs.Common.{◌≡◌, ◌≤◌, ◌++◌, take}}
use Rattle.dr_replica.proofs.history.add_copies.Given as goal

abbrev pub invariant-loop-entry : goal.invariant-loop-entry
invariant-loop-entry l = record {
  items : l.into.items ≡ l.fn.into.items ++ take l.entry-index l.from;
  room : vec_capacity l.fn.into ≤ vec_capacity l.into;
}
