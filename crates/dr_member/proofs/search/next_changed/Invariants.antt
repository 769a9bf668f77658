use Rattle.std.proofs.Common.{◌≡◌, ℕ, ◌<◌, ◌≤◌, false}
use Rattle.dr_rows.specs.Words.{changed}
use Rattle.dr_member.proofs.search.next_changed.Given as goal

abbrev pub invariant-loop-column : goal.invariant-loop-column
invariant-loop-column l = (x : ℕ) → l.fn.from ≤ x → x < l.column → changed l.replica.rows l.to x ≡ false
