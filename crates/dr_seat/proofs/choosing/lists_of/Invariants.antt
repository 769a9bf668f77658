use Rattle.std.specs.Prelude.{None, is_some, slice_index_or}
use Rattle.std.proofs.Common.{◌≡◌, ◌<◌, length, true}
use Rattle.dr_seat.proofs.choosing.lists_of.Given as goal

abbrev pub invariant-loop-m : goal.invariant-loop-m
invariant-loop-m l = record {
  all : length l.lists.items ≡ l.m;
  own : l.me < l.m → is_some (slice_index_or l.lists.items l.me None) ≡ true;
}
