use Rattle.std.specs.Prelude.{None}
use Rattle.std.proofs.Common.{◌≡◌}
use Rattle.dr_seat.proofs.run.Run.go_on.Given as goal

abbrev pub invariant-loop : goal.invariant-loop
invariant-loop l = l.book.stop ≡ None
