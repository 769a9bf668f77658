use Rattle.std.proofs.Common.{ℕ, ◌<◌, slice_index}
use Rattle.dr_bench.proofs.puts.long_item.Given as goal

abbrev pub invariant-loop-place : goal.invariant-loop-place
invariant-loop-place l = (i : ℕ) → slice_index l.place-items i < 256
