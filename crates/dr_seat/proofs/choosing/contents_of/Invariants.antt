use Rattle.std.proofs.Common.{◌≡◌, length}
use Rattle.dr_seat.proofs.choosing.contents_of.Given as goal

abbrev pub invariant-loop-m : goal.invariant-loop-m
invariant-loop-m l = length l.contents.items ≡ l.m
