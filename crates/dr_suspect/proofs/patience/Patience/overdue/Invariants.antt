use Rattle.std.proofs.Common.{◌≡◌, ℕ, ◌<◌, false}
use Rattle.dr_suspect.specs.Waits.{is_overdue}
use Rattle.dr_suspect.proofs.patience.Patience.overdue.Given as goal

abbrev pub invariant-loop-row : goal.invariant-loop-row
invariant-loop-row l = (i : ℕ) → i < l.row → is_overdue l.self l.rows l.fn.unsuspected i ≡ false
