use Rattle.std.{specs.List.range_with_len, proofs.Common.{◌≡◌, ◌∷◌, length, map}}
use Rattle.dr_entry.proofs.Fields.{IsBytes}
use Rattle.dr_rows.specs.Words.{IsWords}
use Rattle.dr_ring.specs.{Pieces.body_piece, Slots.with_pieces}
use Rattle.dr_ring.proofs.ring.put.Given as goal

abbrev pub invariant-loop-part : goal.invariant-loop-part
invariant-loop-part l = record {
  after : l.rows ≡ with_pieces l.shape.window l.fn.rows l.k
      (length l.bytes ∷ map (body_piece l.bytes) (range_with_len 0 l.part));
  form : IsWords l.rows;
  bytes : IsBytes l.bytes;
}
