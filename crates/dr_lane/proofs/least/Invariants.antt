use Rattle.std.{specs.Prelude.Contains, proofs.Common.{◌≡◌, ℕ, ◌-◌, ◌<◌, ◌≤◌, get_or, length}}
use Rattle.dr_lane.proofs.least.Given as goal

abbrev pub invariant-loop-at : goal.invariant-loop-at
invariant-loop-at l = record {
  within : l.at ≤ length l.words;
  long : length l.lanes ≡ 4;
  among : (j : ℕ) → j < 4 → Contains l.words (get_or l.lanes j 0);
  below : (k : ℕ) → k < l.at → (j : ℕ) × (j < 4) × (get_or l.lanes j 0 ≤ get_or l.words k 0);
}

abbrev pub decreases-loop-at : goal.decreases-loop-at
decreases-loop-at l = length l.words - l.at

abbrev pub invariant-loop-i : goal.invariant-loop-i
invariant-loop-i l = record {
  within : l.at ≤ length l.words;
  among : Contains l.words l.least;
  below : (k d : ℕ) → k < l.i → l.least ≤ get_or l.words k d;
}
