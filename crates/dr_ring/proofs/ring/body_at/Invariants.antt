use Rattle.std.{specs.List.range_with_len, proofs.Common.{◌≡◌, ◌*◌, ◌≤◌, map, take}}
use Rattle.dr_words.specs.Packing.{ring_low}
use Rattle.dr_ring.specs.{Pieces.bytes_of, Slots.slot_of}
use Rattle.dr_ring.proofs.ring.body_at.Given as goal

abbrev pub invariant-loop-part : goal.invariant-loop-part
invariant-loop-part l = record {
  at : l.at ≡ l.part * l.apart;
  low : l.at ≤ 16 * l.part;
  bytes : take (4 * l.part) l.bytes
      ≡ bytes_of (map ring_low (map (slot_of l.shape.window l.rows l.row l.k) (range_with_len 1 l.part)));
}
