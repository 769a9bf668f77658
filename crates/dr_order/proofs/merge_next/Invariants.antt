use Rattle.std.proofs.Common.{◌≡◌, ℕ, ◌<◌, ◌≤◌, false}
use Rattle.dr_history.specs.Places.{is_held}
use Rattle.dr_order.proofs.merge_next.Given as goal

abbrev pub invariant-loop-place : goal.invariant-loop-place
invariant-loop-place l = (p : ℕ) → l.from ≤ p → p < l.place → is_held l.counts p ≡ false
