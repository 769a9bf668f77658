-- An item is what its pieces say.
use Rattle.std.specs.{Int.{w32, div_ceil, to_be_bytes}, List.range_with_len}
use Rattle.std.proofs.Common.{◌≡◌, ℕ, zero, suc, ◌+◌, ◌-◌, ◌*◌, ◌^◌, ◌<◌, ◌≤◌, inl, inr, true, false, ◌==◌, List, [], ◌++◌, length, get_or, take, drop, map, refl, sym, ap, ◌∙◌, arith, length-drop, subst, ◌⊎◌, slice_index}
use Rattle.std.proofs.lemmas.{Bool.{cases_lt, Decides.nat_tests}, List.{drop-drop, drop_all, get_or_past}}
use Rattle.std.proofs.lemmas.List.FromFn.{length-map-range_with_len, get_or-map-range_with_len}
use Rattle.dr_words.specs.{Packing.{ring_low, ring_tag, ring_word}, declared.column.TheConstants.PIECES}
use Rattle.dr_entry.specs.declared.entry.Item.{Item, TheVariants.{Null, Text}}
use Rattle.dr_entry.proofs.{Fields.{IsBytes, number_below_4, IsItem}, ListFacts.IsBytes-drop, ListPlaces.bytes_back}
use Rattle.dr_ring.specs.Pieces.{null_mark, is_head, body_len, body_piece, head_piece, body_pieces, pieces, bytes_of, item_of}
use Rattle.dr_ring.specs.Slots.{IsReady}

-- the pieces of a body from part i on hold the bytes from there on
text_back : (n i : ℕ) (bytes : List ℕ) → IsBytes bytes → length bytes ≤ 4 * (i + n)
    → take (length bytes - 4 * i) (bytes_of (map (body_piece bytes) (range_with_len i n))) ≡ drop (4 * i) bytes
text_back zero i bytes fits short =
    let none : length bytes - 4 * i ≡ 0 = omega arith in
    ap (λ (m : ℕ). take {A = ℕ} m []) none ∙ sym (drop_all (4 * i) bytes (omega arith))
text_back (suc n) i bytes fits short =
    let here : List ℕ = drop (4 * i) bytes in
    let rest : List ℕ = bytes_of (map (body_piece bytes) (range_with_len (i + 1) n)) in
    let len : length bytes - 4 * i ≡ length here = sym (length-drop (4 * i) bytes) in
    let len_rest : length here - 4 ≡ length bytes - 4 * (i + 1) = omega (arith, len) in
    let next : 4 * (i + 1) ≡ 4 * i + 4 = omega arith in
    let later : take (length here - 4) rest ≡ drop 4 here = ap (λ (m : ℕ). take m rest) len_rest ∙ text_back n
    (i + 1) bytes fits (omega arith) ∙ ap (λ (m : ℕ). drop m bytes) next ∙ sym (drop-drop 4 (4 * i) bytes) in
    ap (λ (m : ℕ). take m (to_be_bytes w32 (body_piece bytes i) ++ rest)) len
    ∙ bytes_back here rest (IsBytes-drop (4 * i) bytes fits) later

-- ---- an item

-- an item is read back from its pieces
pub item_of-pieces : (item : Item) → IsItem item → item_of (head_piece item) (body_pieces item) ≡ item
item_of-pieces Null is = refl
item_of-pieces (Text bytes) is =
    let message : (length bytes == null_mark) ≡ false = grind (arith, nat_tests, is.0) in
    let whole : length bytes ≡ length bytes - 4 * 0 = omega arith in
    let body = bytes_of (body_pieces (Text bytes)) in
    rw message (ap (λ (n : ℕ). Text (take n body)) whole
    ∙ ap Text (text_back (div_ceil (length bytes) 4) 0 bytes is.1 (omega arith)))

-- the head tells how many pieces the body has
pub body_len-pieces : (item : Item) → IsItem item → body_len (head_piece item) ≡ length (body_pieces item)
body_len-pieces Null is = refl
body_len-pieces (Text bytes) is =
    let message : (length bytes == null_mark) ≡ false = grind (arith, nat_tests, is.0) in
    rw message (sym (length-map-range_with_len (body_piece bytes) 0 (div_ceil (length bytes) 4)))

-- the first piece of an item is a head
pub head_is_head : (item : Item) → IsItem item → is_head (head_piece item) ≡ true
head_is_head Null is = refl
head_is_head (Text bytes) is = grind (arith, nat_tests, is.0)

-- the first piece of an item has 32 bits
pub head_fits : (item : Item) → IsItem item → head_piece item < 2 ^ 32
head_fits Null is = omega arith
head_fits (Text bytes) is = omega (arith, is.0)

-- the pieces of an item fit in a slot
pub few_pieces : (item : Item) → IsItem item → length (pieces item) ≤ PIECES
few_pieces Null is = omega arith
few_pieces (Text bytes) is = omega
    (arith, is.0, length-map-range_with_len (body_piece bytes) 0 (div_ceil (length bytes) 4))

-- each piece of an item has 32 bits
pub piece_fits : (item : Item) (part : ℕ) → IsItem item → get_or (pieces item) part 0 < 2 ^ 32
piece_fits item zero is = head_fits item is
piece_fits Null (suc part) is = omega arith
piece_fits (Text bytes) (suc part) is = elim (cases_lt part (div_ceil (length bytes) 4)) [
  | inl lt ↦ rw (get_or-map-range_with_len (body_piece bytes) 0
      (div_ceil (length bytes) 4) part part 0 lt (omega arith)) (number_below_4 (4 * part) bytes is.1)
  | inr past ↦ rw (get_or_past (body_pieces (Text bytes)) part 0
      (omega (arith, length-map-range_with_len (body_piece bytes) 0 (div_ceil (length bytes) 4)))) (omega arith)
]

-- the head of an item is its length, or the mark of a null
pub short_or_null : (item : Item) → IsItem item → (head_piece item ≤ 64) ⊎ (head_piece item ≡ null_mark)
short_or_null Null is = inr refl
short_or_null (Text bytes) is = inl is.0

-- the words of a slot are pieces of item k
abbrev pub AreOf : ℕ → Item → (ℕ → ℕ) → Type 0
AreOf k item slot = (part : ℕ) → part < length (pieces item)
    → (ring_tag (slot part) ≡ k + 1) × (slot part ≡ ring_word k (slice_index (pieces item) part))

-- then the item is ready
pub ready : (k : ℕ) (item : Item) (slot : ℕ → ℕ) → IsItem item → AreOf k item slot → IsReady k slot
ready k item slot is are = record {
  head = (are 0 (omega arith)).0;
  length_or_null = subst (λ (z : ℕ). (z ≤ 64) ⊎ (z ≡ null_mark)) (sym low) (short_or_null item is);
  body = λ part l. (are (1 + part) (omega (arith, needs, l))).0;
}
  where
    low : ring_low (slot 0) ≡ head_piece item
    low = omega (arith, (are 0 (omega arith)).1, head_fits item is)

    needs : body_len (ring_low (slot 0)) ≡ length (body_pieces item)
    needs = ap body_len low ∙ body_len-pieces item is
