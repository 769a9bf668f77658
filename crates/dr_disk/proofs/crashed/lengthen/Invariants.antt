use Rattle.std.proofs.Common.{◌≡◌, ℕ, ◌+◌, ◌<◌, ◌≤◌, length, get_or}
use Rattle.dr_disk.proofs.crashed.lengthen.Given as goal

abbrev pub invariant-loop : goal.invariant-loop
invariant-loop l = record {
  long : length l.image.items ≡ length l.fn.image.items + l.counter;
  kept : (i : ℕ) → i < length l.fn.image.items → get_or l.image.items i 0 ≡ get_or l.fn.image.items i 0;
  filled : (i : ℕ) → length l.fn.image.items ≤ i → i < length l.image.items → get_or l.image.items i 0 ≡ l.fill;
}
