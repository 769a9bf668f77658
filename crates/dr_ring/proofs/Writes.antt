-- The own row with the pieces of an item.
use Rattle.std.proofs.Common.{◌≡◌, ◌≢◌, ℕ, ◌+◌, ◌-◌, ◌%◌, ◌<◌, ◌≤◌, ◌⊎◌, inl, inr, List, [], ◌∷◌, ◌++◌, length, get_or, set, take, drop, map, sym, ap, ◌∙◌, add-zero, append_assoc, arith, length-take, set-set, length-append, length-drop}
use Rattle.std.proofs.lemmas.List.{append-nil, take-append-drop, drop_more, set_at, length_push, get_or-set_same, get_or-set_other, set-get_or, get_or_append_left, get_or-append_right, get_or-take, get_or-drop, get_or-map, map_push, length-map, length-set}
use Rattle.std.proofs.lemmas.{List.Elements.All-set, Nat.mod_below}
use Rattle.dr_entry.proofs.ListFacts.{written_length}
use Rattle.dr_words.specs.{Columns.columns_of, Packing.ring_word, declared.column.TheConstants.PIECES}
use Rattle.dr_rows.specs.Words.{Words, IsWords, row_of, seen, with_own}
use Rattle.dr_ring.specs.Slots.{slot_column, written, with_pieces}

-- ---- a row

written_none : (row : List ℕ) (column : ℕ) → written row column [] ≡ row
written_none row column = ap (λ (front : List ℕ). front ++ drop (column + 0) row) (append-nil (take column row))
    ∙ ap (λ (c : ℕ). take column row ++ drop c row) (add-zero column) ∙ take-append-drop column row

written_more : (row : List ℕ) (column : ℕ) (words : List ℕ) (v : ℕ) → column + length words < length row
    → set (written row column words) (column + length words) v ≡ written row column (words ++ v ∷ [])
written_more row column words v within =
    let at : ℕ = column + length words in
    let front : List ℕ = take column row ++ words in
    let next : column + length (words ++ v ∷ []) ≡ at + 1 = omega (arith, length_push words v) in
    ap (λ (back : List ℕ). set (front ++ back) at v) (drop_more row at 0 within) ∙ set_at front (get_or row at 0)
    (drop (at + 1) row) v at (written_length row column words (omega arith)) ∙ sym (append_assoc front (v ∷ [])
    (drop (at + 1) row)) ∙ ap (λ (list : List ℕ). list ++ drop (at + 1) row) (append_assoc (take column row) words
    (v ∷ [])) ∙ ap (λ (c : ℕ). (take column row ++ (words ++ v ∷ [])) ++ drop c row) (sym next)

written_inside : (row : List ℕ) (column : ℕ) (words : List ℕ) (p : ℕ) → column ≤ length row
    → p < length words → get_or (written row column words) (column + p) 0 ≡ get_or words p 0
written_inside row column words p within lt =
    let front : List ℕ = take column row in
    let len : length front ≡ column = omega (arith, length-take column row) in
    let whole = written_length row column words within in
    let back : column + p - column ≡ p = omega arith in
    get_or_append_left (front ++ words) (drop (column + length words) row) 0 (column + p) (omega arith)
    ∙ get_or-append_right front words column (column + p) 0 len (omega arith) ∙ ap (λ (i : ℕ). get_or words i 0) back

written_outside : (row : List ℕ) (column : ℕ) (words : List ℕ) (c : ℕ) → column + length words ≤ length row
    → (c < column) ⊎ (column + length words ≤ c) → get_or (written row column words) c 0 ≡ get_or row c 0
written_outside row column words c within (inl before) =
    let len : length (take column row) ≡ column = omega (arith, length-take column row) in
    let whole = written_length row column words (omega arith) in
    get_or_append_left (take column row ++ words) (drop (column + length words) row) 0 c (omega arith)
    ∙ get_or_append_left (take column row) words 0 c (omega arith) ∙ get_or-take column row c 0 before
written_outside row column words c within (inr behind) =
    let whole = written_length row column words (omega arith) in
    let there : column + length words + (c - (column + length words)) ≡ c = omega arith in
    get_or-append_right (take column row ++ words) (drop (column + length words) row)
    (column + length words) c 0 whole behind ∙ get_or-drop (column + length words) row (c - (column + length words)) 0
    ∙ ap (λ (i : ℕ). get_or row i 0) there

-- ---- the words of a member

-- the slot lies in the own row
pub record HasSlot (window : ℕ) (w : Words) (k : ℕ) : Type 0 where
  pub present : w.me < length w.words
  pub columns : slot_column w.members window k + PIECES ≤ length (row_of w.words w.me)

-- no pieces written leave the words as they are
pub pieces_none : (window : ℕ) (w : Words) (k : ℕ) → with_pieces window w k [] ≡ w
pieces_none window w k = ap (λ (row : List ℕ). record w { words = set w.words w.me row })
    (written_none (row_of w.words w.me) (slot_column w.members window k))
    ∙ ap (λ (rows : List (List ℕ)). record w { words = rows }) (set-get_or w.words w.me [])

-- one piece more is a write of one own word
pub pieces_more : (window : ℕ) (w : Words) (k : ℕ) (list : List ℕ) (low : ℕ) → HasSlot window w k
    → length list < PIECES → with_own (with_pieces window w k list) (slot_column w.members window k + length list)
    (ring_word k low) ≡ with_pieces window w k (list ++ low ∷ [])
pieces_more window w k list low slot few =
    let column : ℕ = slot_column w.members window k in
    let row : List ℕ = row_of w.words w.me in
    let words : List ℕ = map (ring_word k) list in
    let len : length words ≡ length list = length-map list (ring_word k) in
    let place : column + length list ≡ column + length words = omega (arith, len) in
    let new : List ℕ = set (written row column words) (column + length list) (ring_word k low) in
    ap (λ (r : List ℕ). record w {
      words = set (set w.words w.me (written row column words)) w.me (set r (column + length list) (ring_word k low));
    }) (get_or-set_same w.words w.me (written row column words) [] slot.present)
    ∙ ap (λ (rows : List (List ℕ)). record w { words = rows }) (set-set w.words w.me (written row column words) new)
    ∙ ap (λ (c : ℕ). record w { words = set w.words w.me (set (written row column words) c (ring_word k low)) }) place
    ∙ ap (λ (r : List ℕ). record w { words = set w.words w.me r })
    (written_more row column words (ring_word k low) (omega (arith, len, slot.columns)))
    ∙ ap (λ (list : List ℕ). record w { words = set w.words w.me (written row column list) })
    (sym (map_push (ring_word k) list low))

-- the words that were set, and those that were not
pub own_set : (window : ℕ) (w : Words) (k : ℕ) (list : List ℕ) (part : ℕ) → HasSlot window w k → part < length list
    → seen (with_pieces window w k list) w.me (slot_column w.members window k + part)
    ≡ ring_word k (get_or list part 0)
own_set window w k list part slot lt =
    let column : ℕ = slot_column w.members window k in
    let words : List ℕ = map (ring_word k) list in
    ap (λ (r : List ℕ). get_or r (column + part) 0)
    (get_or-set_same w.words w.me (written (row_of w.words w.me) column words) [] slot.present)
    ∙ written_inside (row_of w.words w.me) column words part (omega (arith, slot.columns))
    (omega (arith, length-map list (ring_word k))) ∙ get_or-map (ring_word k) list part 0 0 lt

-- an own word outside the written part of the slot is as it was
pub own_left : (window : ℕ) (w : Words) (k : ℕ) (list : List ℕ) (c : ℕ) → HasSlot window w k → length list ≤ PIECES
    → (c < slot_column w.members window k) ⊎ (slot_column w.members window k + length list ≤ c)
    → seen (with_pieces window w k list) w.me c ≡ seen w w.me c
own_left window w k list c slot few out =
    let column : ℕ = slot_column w.members window k in
    let words : List ℕ = map (ring_word k) list in
    let len : length words ≡ length list = length-map list (ring_word k) in
    let out' : (c < column) ⊎ (column + length words ≤ c) =
    elim out [ inl before ↦ inl before | inr behind ↦ inr (omega (arith, len)) ] in
    ap (λ (r : List ℕ). get_or r c 0)
    (get_or-set_same w.words w.me (written (row_of w.words w.me) column words) [] slot.present)
    ∙ written_outside (row_of w.words w.me) column words c (omega (arith, len, slot.columns)) out'

-- the row of another member is as it was
pub other_rows : (window : ℕ) (w : Words) (k : ℕ) (list : List ℕ) (row : ℕ) → row ≢ w.me
    → row_of (with_pieces window w k list).words row ≡ row_of w.words row
other_rows window w k list row other = get_or-set_other w.words w.me row
    (written (row_of w.words w.me) (slot_column w.members window k) (map (ring_word k) list)) [] other

-- ---- the form of the words from before

-- in words with the columns of a window, each item has its slot in the own row
pub HasSlot-from : (window : ℕ) (w : Words) (k : ℕ) → IsWords w → 1 ≤ window
    → w.columns ≡ columns_of w.members window → HasSlot window w k
HasSlot-from window w k form some columns =
    let present : w.me < length w.words = omega (arith, form.rows.height, form.present) in
    let slot : k % window < window = mod_below k window some in
    let width : length (row_of w.words w.me) ≡ w.columns = form.rows.width w.me [] present in
    record { present = present; columns = rw (width, columns) (omega arith) }

-- the rows keep their form
pub IsWords-pieces : (window : ℕ) (w : Words) (k : ℕ) (list : List ℕ) → HasSlot window w k
    → length list ≤ 17 → IsWords w → IsWords (with_pieces window w k list)
IsWords-pieces window w k list slot few form = record {
  few = form.few;
  narrow = form.narrow;
  present = form.present;
  rows = record {
    height = length-set w.words w.me new ∙ form.rows.height;
    width = All-set (λ row. length row ≡ w.columns) w.words w.me new
        (same_length ∙ form.rows.width w.me [] slot.present) form.rows.width;
  };
  pushes = form.pushes;
  marks = form.marks;
  alive = form.alive;
}
  where
    row : List ℕ
    row = row_of w.words w.me

    column : ℕ
    column = slot_column w.members window k

    words : List ℕ
    words = map (ring_word k) list

    new : List ℕ
    new = written row column words

    same_length : length new ≡ length row
    same_length = omega (
      arith,
      slot.columns,
      few,
      length-append (take column row ++ words) (drop (column + length words) row),
      length-append (take column row) words,
      length-take column row,
      length-drop (column + length words) row,
      length-map list (ring_word k),
    )
