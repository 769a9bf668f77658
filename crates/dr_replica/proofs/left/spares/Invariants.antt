use Rattle.std.{specs.Prelude.vec_capacity, proofs.Common.{◌≡◌, ◌≤◌, All, length}}
use Rattle.dr_replica.specs.Lefts.{IsSpare}
use Rattle.dr_replica.proofs.left.spares.Given as goal

abbrev pub invariant-loop : goal.invariant-loop
invariant-loop l = record {
  count : length l.lefts.items ≡ l.counter;
  spare : All (IsSpare l.columns l.roster l.most) l.lefts.items;
  room : l.count ≤ vec_capacity l.lefts;
}
