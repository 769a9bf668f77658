use Rattle.std.{specs.Int.{w32, to_be_bytes}, proofs.Common.{◌≡◌, ◌+◌, ℕ, slice_index, ap, ◌∙◌, rules, arith}}
use Rattle.dr_words.specs.Packing.{ring_low}
use Rattle.dr_ring.{specs.Slots.slot_of, proofs.Bodies.{bytes_more, seen_body}}
use Rattle.dr_ring.proofs.ring.body_at.Goals as goal

pub loop-part-preserved : goal.loop-part-preserved
loop-part-preserved c =
    let before = c.loop-part.invariant in
    let part = c.loop-part.part in
    let window = c.args.shape.now.window in
    let slot = slot_of window c.args.rows.now c.args.row c.args.k in
    let there = ap (slice_index c.seen_from-apart.result.0.now) before.at
    ∙ c.seen_from-apart.ensures.words part (omega (
      arith,
      c.body_column.ensures.value,
      c.slot_at.ensures.within,
      c.requires.shape.columns,
      c.requires.len,
      c.loop-part-test.true,
    )) ∙ seen_body window c.args.rows.now c.args.row c.args.k part c.args.shape.now.members c.slot_at.result
    (c.body_column.result + part) c.requires.shape.members c.slot_at.ensures.value
    (omega (arith, c.body_column.ensures.value)) in
    let piece : c.unpack_ring-piece.result.1 ≡ ring_low (slot (1 + part)) =
    c.unpack_ring-piece.ensures.low ∙ ap ring_low there in
    record {
      at = omega (arith, before.at);
      low = omega (arith, before.low, c.seen_from-apart.ensures.few);
      bytes = bytes_more slot part _ c.loop-part.bytes c.copy_from_slice.new.self (omega arith)
          (search rules) before.bytes
          (c.copy_from_slice.ensures.after ∙ c.to_be_bytes.ensures ∙ ap (λ (n : ℕ). to_be_bytes w32 n) piece);
    }
