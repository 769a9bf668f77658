-- The words of a body, one after the other.
use Rattle.std.{specs.Int.{w32, to_be_bytes}, proofs.lemmas.{List.{flat_map_more, map_push}, Slice.take-put_mid}}
use Rattle.std.proofs.Common.{◌≡◌, ℕ, ◌+◌, ◌*◌, ◌%◌, ◌≤◌, List, [], ◌++◌, length, take, map, sym, ap, ◌∙◌, arith}
use borrow.Rule.Slice.PartMut.{put_mid}
use Rattle.dr_entry.proofs.ListFacts.{first_words, words_more}
use Rattle.dr_words.specs.{Columns.body_column, Packing.ring_low}
use Rattle.dr_rows.specs.Words.{Words, seen}
use Rattle.dr_ring.specs.{Pieces.bytes_of, Slots.{slot_column, slot_of}}

-- the bytes of one word more were written
pub bytes_more : (slot : ℕ → ℕ) (n len : ℕ) (bytes written : List ℕ) → 4 * n ≤ length bytes
    → length written ≡ 4 → take (4 * n) bytes ≡ bytes_of (map ring_low (first_words slot n))
    → written ≡ to_be_bytes w32 (ring_low (slot (1 + n))) → take (4 * (n + 1)) (put_mid (4 * n) len bytes written)
    ≡ bytes_of (map ring_low (first_words slot (n + 1)))
bytes_more slot n len bytes written room four so_far new = take-put_mid (4 * n) len bytes written
    (4 * (n + 1)) (omega arith) room ∙ ap (λ (front : List ℕ). front ++ written) so_far
    ∙ ap (λ (back : List ℕ). bytes_of (map ring_low (first_words slot n)) ++ back) new
    ∙ flat_map_more (to_be_bytes w32) [] (map ring_low (first_words slot n)) (ring_low (slot (1 + n))) ∙ ap bytes_of
    (sym (map_push ring_low (first_words slot n) (slot (1 + n))) ∙ ap (map ring_low) (sym (words_more slot n)))

-- where the words of the body stand
pub seen_body : (window : ℕ) (w : Words) (row k part members slot column : ℕ) → w.members ≡ members
    → slot ≡ k % window → column ≡ body_column members slot part
    → seen w row column ≡ slot_of window w row k (1 + part)
seen_body window w row k part members slot column same at here =
    let place : column ≡ slot_column w.members window k + (1 + part) =
    rw (same, ← at, here) (omega arith) in ap (λ (c : ℕ). seen w row c) place
