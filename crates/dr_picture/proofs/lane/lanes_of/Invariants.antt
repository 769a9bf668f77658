use Rattle.std.proofs.Common.{◌≡◌, vec_len}
use Rattle.dr_picture.proofs.lane.lanes_of.Given as goal

abbrev pub invariant-loop : goal.invariant-loop
invariant-loop l = vec_len l.lanes ≡ l.counter
