use Rattle.std.proofs.Common.{◌≡◌, ℕ, ◌<◌, false}
use Rattle.dr_suspect.specs.{Suspicion.spreads, Wishes.may_wish}
use Rattle.dr_suspect.proofs.suspects.Suspects.next_spread.Given as goal

abbrev pub invariant-loop-row : goal.invariant-loop-row
invariant-loop-row l = (i j : ℕ) → i < l.row → spreads l.self (may_wish l.history l.age l.fn.late) l.rows i j ≡ false
