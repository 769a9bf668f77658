use Rattle.std.proofs.Common.{◌≡◌, ℕ, ◌+◌, ◌*◌, ◌<◌, length, slice_index}
use Rattle.dr_packet.specs.Packets.{long_at}
use Rattle.dr_packet.proofs.reading.lengths_of.Given as goal

abbrev pub invariant-loop-m : goal.invariant-loop-m
invariant-loop-m l =
    (length l.lengths ≡ 16) × ((j : ℕ) → j < l.m → slice_index l.lengths j ≡ long_at (5 + 8 * j) l.bytes)
