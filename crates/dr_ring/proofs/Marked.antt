-- What masks of tags tell of words: those of heads, and those of a block of a body.
use Rattle.std.{specs.{Int.bit_at, List.list_all}, proofs.lemmas.Bool.Decides.nat_tests}
use Rattle.std.proofs.Common.{◌≡◌, ◌↔◌, ℕ, zero, suc, ◌+◌, ◌<◌, ◌≤◌, EachIndex, Bool, true, ◌&&◌, nat_eq, [], ◌∷◌, get_or, IsTrue, refl, sym, ap, ◌∙◌, arith}
use Rattle.dr_entry.proofs.{Bits.all_marked, Items.some_rest, ListFacts.first_words}
use Rattle.dr_words.specs.Packing.{ring_tag, ring_low}
use Rattle.dr_rows.specs.Words.{Words, seen}
use Rattle.dr_ring.specs.{Pieces.{is_head, body_len}, Slots.{IsReady, is_of, slot_column, slot_of}}
use Rattle.dr_ring.proofs.Readiness.{of_tag, ready_value, tag_of}

-- ---- heads

-- what is asked of the words of an item beside the tag of its head
abbrev is_whole : (ℕ → ℕ) → ℕ → Bool
is_whole slot k = is_head (ring_low (slot 0)) && list_all (is_of k) (first_words slot (body_len (ring_low (slot 0))))

-- an item whose head was seen is there exactly where the rest of it is
rest_value : (k : ℕ) (slot : ℕ → ℕ) (rest : Bool) → is_of k (slot 0) ≡ true → rest ≡ is_whole slot k
    → IsTrue rest ↔ IsReady k slot
rest_value k slot rest head same =
    ready_value k slot rest (same ∙ sym (some_rest (is_of k (slot 0)) (is_whole slot k) _ head))

-- the same in a row, by the column of the head
pub rest_in_row : (window : ℕ) (w : Words) (row k column : ℕ) (rest : Bool)
    → column ≡ slot_column w.members window k → is_of k (seen w row column) ≡ true
    → rest ≡ is_whole (λ part. seen w row (column + part)) k → IsTrue rest ↔ IsReady k (slot_of window w row k)
rest_in_row window w row k column rest place head same =
    let here : column ≡ slot_column w.members window k + 0 = omega (arith, place) in
    rest_value k (slot_of window w row k) rest (ap (λ (x : ℕ). is_of k (seen w row x)) (sym here) ∙ head)
    (same ∙ ap (λ (x : ℕ). is_whole (λ part. seen w row (x + part)) k) place)

-- the same of the item behind i others
pub rest_behind : (window : ℕ) (w : Words) (row k i from column : ℕ) (rest : Bool) → from ≡ i
    → column ≡ slot_column w.members window (k + i) → is_of (k + i) (slot_of window w row (k + i) 0) ≡ true
    → rest ≡ is_whole (λ part. seen w row (column + part)) (k + from)
    → IsTrue rest ↔ IsReady (k + i) (slot_of window w row (k + i))
rest_behind window w row k i from column rest at place head same =
    rest_value (k + i) (slot_of window w row (k + i)) rest head
    (same ∙ ap (λ (f : ℕ). is_whole (λ part. seen w row (column + part)) (k + f)) at
    ∙ ap (λ (x : ℕ). is_whole (λ part. seen w row (x + part)) (k + i)) place)

-- an item whose head wasn't seen isn't there
pub no_head : (window : ℕ) (w : Words) (row k : ℕ)
    → (is_of k (slot_of window w row k 0) ≡ true → ⊥) → IsReady k (slot_of window w row k) → ⊥
no_head window w row k none here = none (of_tag k (slot_of window w row k 0) here.head)

-- ---- blocks

-- the mask of the tags of four words is full exactly where each word is of item k
pub block_full : (k mask a b c d to : ℕ) (word : ℕ → ℕ) → a ≡ ring_tag (word 0)
    → b ≡ ring_tag (word 1) → c ≡ ring_tag (word 2) → d ≡ ring_tag (word 3) → to ≡ k + 1
    → EachIndex (a ∷ b ∷ c ∷ d ∷ []) (λ i. (bit_at mask i ≡ 1) ↔ (get_or (a ∷ b ∷ c ∷ d ∷ []) i 0 ≡ to))
    → ((i : ℕ) → 4 ≤ i → bit_at mask i ≡ 0) → IsTrue (nat_eq mask 15) ↔ ((i : ℕ) → i < 4 → is_of k (word i) ≡ true)
block_full k mask a b c d to word first second third fourth same set clear =
    let tests = all_marked 4 (a ∷ b ∷ c ∷ d ∷ []) mask to refl set clear in (
      λ e i l. of_tag k (word i) (sym (at i l) ∙ tests.0 (grind (arith, nat_tests)) i l ∙ same),
      λ each. let full : mask ≡ 15 = tests.1 (λ i l. at i l ∙ tag_of k (word i) (each i l) ∙ sym same) in
          grind (arith, nat_tests),
    )
  where
    at : (i : ℕ) → i < 4 → get_or (a ∷ b ∷ c ∷ d ∷ []) i 0 ≡ ring_tag (word i)
    at zero l = first
    at (suc zero) l = second
    at (suc (suc zero)) l = third
    at (suc (suc (suc zero))) l = fourth
    at (suc (suc (suc (suc i)))) l = absurd (omega (arith, l))
