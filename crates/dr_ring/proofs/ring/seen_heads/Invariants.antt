use Rattle.std.proofs.Common.{◌≡◌, ℕ, ◌+◌, ◌-◌, ◌<◌, ◌≤◌, ◌↔◌, get_or, length}
use Rattle.dr_words.specs.Packing.{ring_low, ring_tag}
use Rattle.dr_ring.specs.{Pieces.null_mark, Slots.{slot_column, slot_of}}
use Rattle.dr_ring.proofs.ring.seen_heads.Given as goal

abbrev pub invariant-loop-i : goal.invariant-loop-i
invariant-loop-i l = record {
  long : length l.columns ≡ 8;
  long_tags : length l.tags ≡ 8;
  columns : (j : ℕ) → j < l.i → get_or l.columns j 0 ≡ slot_column l.rows.members l.shape.window (l.k + j);
  tags : (j : ℕ) → j < l.i
      → get_or l.tags j 0 ≡ ring_tag (slot_of l.shape.window l.rows l.row (l.k + j) 0) + (l.shape.window - j);
  here : l.column ≡ slot_column l.shape.members l.shape.window (l.k + l.i);
  clear : (j : ℕ) → l.shape.window ≤ j → get_or l.tags j 0 ≡ 0;
  nulls : (l.common ≡ null_mark) ↔ ((j : ℕ) → j < l.i
      → ring_low (slot_of l.shape.window l.rows l.row (l.k + j) 0) ≡ null_mark);
}
