use Rattle.std.{specs.Prelude.vec_capacity, proofs.Common.{◌≡◌, ◌≤◌, All, [], length}}
use Rattle.dr_join.proofs.letters.Letters.new.Given as goal

abbrev pub invariant-loop : goal.invariant-loop
invariant-loop l = record {
  count : length l.lists.items ≡ l.counter;
  empty : All (λ list. list.items ≡ []) l.lists.items;
  room : All (λ list. l.room ≤ vec_capacity list) l.lists.items;
  more : l.count ≤ vec_capacity l.lists;
}
