use Rattle.std.proofs.Common.{◌≡◌, ◌⊎◌, ℕ, ◌<◌, ◌≤◌, length, get_or}
use Rattle.dr_disk.proofs.crashed.cover.Given as goal

abbrev pub invariant-loop-i : goal.invariant-loop-i
invariant-loop-i l = record {
  long : length l.image.items ≡ length l.fn.image.items;
  kept : (k : ℕ) → (k < l.from) ⊎ (l.to ≤ k) → get_or l.image.items k 0 ≡ get_or l.fn.image.items k 0;
  filled : (k : ℕ) → l.from ≤ k → k < l.i → get_or l.image.items k 0 ≡ l.fill;
}
