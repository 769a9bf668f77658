use Rattle.std.proofs.{Common.{◌≡◌, ◌+◌, ◌-◌, ◌<◌, ℕ, ap, sym, ◌∙◌, rules, arith}, lemmas.List.get_or-set_other}
use Rattle.dr_entry.proofs.ListFacts.{filled_more}
use Rattle.dr_words.specs.Packing.{ring_low, ring_tag}
use Rattle.dr_rows.specs.Words.{seen}
use Rattle.dr_ring.{specs.Slots.{slot_column, slot_of}, proofs.Heads.nulls_more}
use Rattle.dr_ring.proofs.ring.seen_heads.Goals as goal

pub loop-i-preserved : goal.loop-i-preserved
loop-i-preserved c =
    let window = c.args.shape.now.window in
    let rows = c.args.rows.now in
    let row = c.args.row in
    let k = c.args.k in
    let i = c.loop-i.i in
    let behind : k + i + 1 ≡ k + (i + 1) = omega arith in
    let place : c.loop-i.column ≡ slot_column rows.members window (k + i) = c.loop-i.invariant.here
    ∙ ap (λ (m : ℕ). slot_column m window (k + i)) (sym c.requires.shape.members) in
    let start : c.loop-i.column ≡ slot_column rows.members window (k + i) + 0 = omega (arith, place) in
    let word : c.seen.result ≡ slot_of window rows row (k + i) 0 =
    c.seen.ensures ∙ ap (λ (x : ℕ). seen rows row x) start in
    let tag : c.from-in-loop-i.result + c.from-in-loop-i-2.result
    ≡ ring_tag (slot_of window rows row (k + i) 0) + (window - i) = ap (λ (t : ℕ). t + c.from-in-loop-i-2.result)
    (c.from-in-loop-i.ensures ∙ c.unpack_ring-tag.ensures.tag ∙ ap ring_tag word)
    ∙ ap (λ (n : ℕ). ring_tag (slot_of window rows row (k + i) 0) + n) c.from-in-loop-i-2.ensures in
    let piece : c.unpack_ring-tag.result.1 ≡ ring_low (slot_of window rows row (k + i) 0) =
    c.unpack_ring-tag.ensures.low ∙ ap ring_low word in
    let within : i < window = omega (arith, c.loop-i-test.true) in
    record {
      long = search rules;
      long_tags = search rules;
      columns = filled_more c.loop-i.columns c.from.result i c.loop-i.column (λ j. slot_column rows.members window
          (k + j)) c.from.ensures (omega (arith, within, c.args.shape.now.most_slots, c.loop-i.invariant.long)) place
          c.loop-i.invariant.columns;
      tags = filled_more c.loop-i.tags c.from-in-loop-i-3.result i
          (c.from-in-loop-i.result + c.from-in-loop-i-2.result)
          (λ j. ring_tag (slot_of window rows row (k + j) 0) + (window - j)) c.from-in-loop-i-3.ensures
          (omega (arith, within, c.args.shape.now.most_slots, c.loop-i.invariant.long_tags)) tag
          c.loop-i.invariant.tags;
      here = c.next_head-column.ensures (k + i) c.loop-i.invariant.here
          ∙ ap (λ (n : ℕ). slot_column c.args.shape.now.members window n) behind;
      clear = λ j g. get_or-set_other c.loop-i.tags c.from-in-loop-i-3.result j
          (c.from-in-loop-i.result + c.from-in-loop-i-2.result) 0
          (omega (arith, g, within, c.from-in-loop-i-3.ensures)) ∙ c.loop-i.invariant.clear j g;
      nulls = nulls_more (λ j. ring_low (slot_of window rows row (k + j) 0)) c.loop-i.common
          c.unpack_ring-tag.result.1 i (omega arith) (omega (arith, piece)) piece c.loop-i.invariant.nulls;
    }
