-- The words of a member that puts an item.
use Rattle.std.proofs.Common.{◌≡◌, ℕ, ◌+◌, ◌-◌, ◌*◌, ◌<◌, ◌≤◌, inl, inr, List, [], ◌++◌, length, get_or, take, drop, map, sym, ap, subst, ◌∙◌, arith, length-append, length-take, length-drop}
use Rattle.std.proofs.lemmas.{Bool.cases_lt, List.{length-set, length-map, Elements.All-set}}
use Rattle.dr_entry.{specs.declared.entry.Item.Item, proofs.Fields.IsItem}
use Rattle.dr_rows.specs.Words.{Words, own, row_of}
use Rattle.dr_words.{specs.{Columns.columns_of, Grown.Grown, Packing.{ring_word, ring_tag}}, proofs.Tables.IsTable}
use Rattle.dr_ring.specs.{Pieces.pieces, Slots.{slot_column, written, with_item}}
use Rattle.dr_ring.proofs.{Growing.{pieces_grow, pieces_in_form}, Items.{few_pieces, piece_fits}}
use Rattle.dr_ring.proofs.Writes.{HasSlot, HasSlot-from, own_set}
use Rattle.dr_ring.proofs.Writes as writes

-- a row stays as long as it is
written_long : (row : List ℕ) (column : ℕ) (words : List ℕ) → column + length words ≤ length row
    → length (written row column words) ≡ length row
written_long row column words within = omega (
  arith,
  length-append (take column row ++ words) (drop (column + length words) row),
  length-append (take column row) words,
  length-take column row,
  length-drop (column + length words) row,
)

slot_in : (n window : ℕ) (w : Words) (k : ℕ) → IsTable n window w → 1 ≤ window → HasSlot window w k
slot_in n window w k t some =
    HasSlot-from window w k t.rows some (t.columns ∙ ap (λ (m : ℕ). columns_of m window) (sym t.members))

-- the rows remain a table when an item is put in its slot
pub table_put : (n window : ℕ) (w : Words) (k : ℕ) (item : Item) → IsTable n window w → 1 ≤ window
    → IsItem item → IsTable n window (with_item window w k item)
table_put n window w k item t some is =
    let slot = slot_in n window w k t some in
    let few = few_pieces item is in
    let column : ℕ = slot_column w.members window k in
    let words : List ℕ = map (ring_word k) (pieces item) in
    let row : List ℕ = written (row_of w.words w.me) column words in
    let long : length row ≡ w.columns = written_long (row_of w.words w.me) column words
    (omega (arith, slot.columns, few, length-map (pieces item) (ring_word k)))
    ∙ t.rows.rows.width w.me [] slot.present in
    record {
      rows = record {
        few = t.rows.few;
        narrow = t.rows.narrow;
        present = t.rows.present;
        rows = record {
          height = length-set w.words w.me row ∙ t.rows.rows.height;
          width = All-set (λ (r : List ℕ). length r ≡ w.columns) w.words w.me row long t.rows.rows.width;
        };
        pushes = t.rows.pushes;
        marks = t.rows.marks;
        alive = t.rows.alive;
      };
      members = t.members;
      columns = t.columns;
      words = pieces_in_form window w k (pieces item) slot few t.words;
    }

-- the words before the ring stay
pub put_left : (n window : ℕ) (w : Words) (k : ℕ) (item : Item) (c : ℕ) → IsTable n window w → 1
    ≤ window → IsItem item → c < 6 + 2 * n → own (with_item window w k item) c ≡ own w c
put_left n window w k item c t some is low = writes.own_left window w k
    (pieces item) c (slot_in n window w k t some) (few_pieces item is) (inl (omega (arith, t.members, low)))

-- the words of the ring are of items up to this one
pub put_tags : (n window : ℕ) (w : Words) (k : ℕ) (item : Item) (c : ℕ) → IsTable n window w → 1
    ≤ window → IsItem item → ring_tag (own w c) ≤ k → ring_tag (own (with_item window w k item) c) ≤ k + 1
put_tags n window w k item c t some is before = elim (cases_lt c first) [
  | inl lower ↦ let kept = writes.own_left window w k (pieces item) c slot few (inl lower) in
      rw kept (omega (arith, before))
  | inr from ↦ elim (cases_lt c (first + length (pieces item))) [
    | inr behind ↦ let kept = writes.own_left window w k (pieces item) c slot few (inr behind) in
        rw kept (omega (arith, before))
    | inl within ↦
        let place : first + (c - first) ≡ c = omega (arith, from) in
        let new = own_set window w k (pieces item) (c - first) slot (omega (arith, from, within)) in
        let fits = piece_fits item (c - first) is in
        subst (λ (d : ℕ). ring_tag (own (with_item window w k item) d) ≤ k + 1) place
        (rw new (tag k (get_or (pieces item) (c - first) 0) fits))
  ]
]
  where
    first : ℕ
    first = slot_column w.members window k

    slot : HasSlot window w k
    slot = slot_in n window w k t some

    few : length (pieces item) ≤ 17
    few = few_pieces item is

    tag : (i low : ℕ) → low < 4294967296 → ring_tag (ring_word i low) ≤ i + 1
    tag i low fits = omega (arith, fits)

-- where the slot's tags are at most the item's number, no word falls by the put
pub put_grown : (n window : ℕ) (w : Words) (k : ℕ) (item : Item) → IsTable n window w → 1 ≤ window → IsItem item
    → ((part : ℕ) → part < 17 → ring_tag (own w (slot_column n window k + part)) ≤ k)
    → Grown n w.words (with_item window w k item).words w.frozen w.frozen
put_grown n window w k item t some is earlier =
    subst (λ (m : ℕ). Grown m w.words (with_item window w k item).words w.frozen w.frozen) t.members
    (pieces_grow window w k (pieces item) (slot_in n window w k t some) t.rows (few_pieces item is)
    (λ part lt. subst (λ (m : ℕ). ring_tag (own w (slot_column m window k + part)) ≤ k)
    (sym t.members) (earlier part lt)))
