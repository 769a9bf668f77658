use Rattle.std.{specs.Prelude.{All, vec_capacity}, proofs.Common.{◌≡◌, ℕ, ◌+◌, ◌≤◌, ◌++◌, length, map, replicate}}
use Rattle.dr_program.specs.Replica.{nothing_left}
use Rattle.dr_replica.specs.Lefts.{IsSpare, left_of}
use Rattle.dr_replica.proofs.left.skip_views.Given as goal

abbrev pub invariant-loop : goal.invariant-loop
invariant-loop l = record {
  lefts : map left_of l.lefts.items ≡ map left_of l.fn.lefts.items ++ replicate l.counter nothing_left;
  room : vec_capacity l.fn.lefts ≤ vec_capacity l.lefts;
  count : length l.spares.items + l.counter ≡ length l.fn.spares.items;
  spare : (columns roster most : ℕ) → All (IsSpare columns roster most) l.fn.spares.items
      → All (IsSpare columns roster most) l.spares.items;
}
