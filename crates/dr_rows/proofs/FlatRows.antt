-- A vector of words, each where its row and its column say, as a grid.
use Rattle.std.{specs.List.range_with_len, proofs.lemmas.List.{get_or-set_same, get_or-set_other, get_or-replicate}}
use Rattle.std.proofs.Common.{◌≡◌, ℕ, ◌*◌, ◌<◌, List, [], length, get_or, set, replicate, map, slice_index, inl, inr, sym, ap, ◌∙◌, arith}
use Rattle.std.proofs.lemmas.{Bool.cases_eq, List.FromFn.{length-map-range_with_len, get_or-map-range_with_len}}
use Rattle.std.proofs.lemmas.Nat.{mul-add-lt, same_from_place}
use Rattle.dr_rows.specs.{Inside.{by_column, by_row, rows_at}, Words.{IsGrid, word_at, with_word, zeros}}
use Rattle.dr_rows.proofs.Grids.{same_grids, with_word-same, with_word-row, with_word-column, IsGrid-with_word, IsGrid-zeros}

-- each word has a place of its own
pub record IsLayout (place : ℕ → ℕ → ℕ) (n k : ℕ) : Type 0 where
  pub within : (i c : ℕ) → i < n → c < k → place i c < n * k
  pub apart : (i c j d : ℕ) → i < n → c < k → j < n → d < k → place j d ≡ place i c → (j ≡ i) × (d ≡ c)

pub IsLayout-by_row : (n k : ℕ) → IsLayout (by_row k) n k
IsLayout-by_row n k = record {
  within = λ i c h g. omega (arith, mul-add-lt i k c n h g);
  apart = λ i c j d hi hc hj hd e. same_from_place j d i c k hd hc e;
}

pub IsLayout-by_column : (n k : ℕ) → IsLayout (by_column n) n k
IsLayout-by_column n k = record {
  within = λ i c h g. omega (arith, mul-add-lt c n i k g h);
  apart = λ i c j d hi hc hj hd e. let same = same_from_place d j c i n hj hi e in (same.1, same.0);
}

-- the words of a row, from the vector
abbrev row_in : (ℕ → ℕ → ℕ) → ℕ → List ℕ → ℕ → List ℕ
row_in place k flat i = map (λ c. slice_index flat (place i c)) (range_with_len 0 k)

row_of-rows_at : (place : ℕ → ℕ → ℕ) (n k : ℕ) (flat : List ℕ) (i : ℕ) (d : List ℕ) → i < n
    → get_or (rows_at place n k flat) i d ≡ row_in place k flat i
unfolding rows_at
row_of-rows_at place n k flat i d h = get_or-map-range_with_len (row_in place k flat) 0 n i i d h (omega arith)

-- a word of the grid is the one at its place in the vector
pub word_at-rows_at : (place : ℕ → ℕ → ℕ) (n k : ℕ) (flat : List ℕ) (i c : ℕ) → i < n → c < k
    → word_at (rows_at place n k flat) i c ≡ slice_index flat (place i c)
word_at-rows_at place n k flat i c h g = ap (λ row. get_or row c 0) (row_of-rows_at place n k flat i [] h)
    ∙ get_or-map-range_with_len (λ c. slice_index flat (place i c)) 0 k c c 0 g (omega arith)

-- the rows of a vector are a grid
IsGrid-rows_at : (place : ℕ → ℕ → ℕ) (n k : ℕ) (flat : List ℕ) → IsGrid n k (rows_at place n k flat)
unfolding rows_at
IsGrid-rows_at place n k flat =
    let height : length (rows_at place n k flat) ≡ n = length-map-range_with_len (row_in place k flat) 0 n in
    record {
      height = height;
      width = λ i d h. ap length (row_of-rows_at place n k flat i d (omega (arith, height)))
          ∙ length-map-range_with_len (λ c. slice_index flat (place i c)) 0 k;
    }

-- a write at a place of the vector is a write to the grid
pub rows_at-set : (place : ℕ → ℕ → ℕ) (n k : ℕ) (flat : List ℕ) (i c v : ℕ) → IsLayout place n k → length flat ≡ n * k
    → i < n → c < k → rows_at place n k (set flat (place i c) v) ≡ with_word (rows_at place n k flat) i c v
rows_at-set place n k flat i c v layout full h g =
    let grid = IsGrid-rows_at place n k flat in
    same_grids n k (rows_at place n k (set flat (place i c) v)) (with_word (rows_at place n k flat) i c v)
    (IsGrid-rows_at place n k (set flat (place i c) v)) (IsGrid-with_word n k (rows_at place n k flat) i c v grid h)
    (λ j d hj hd.
    let new = word_at-rows_at place n k (set flat (place i c) v) j d hj hd in
    let old = word_at-rows_at place n k flat j d hj hd in
    elim (cases_eq d c) [
      | inr apart ↦ new ∙ get_or-set_other flat (place i c) (place j d) v 0
          (λ e. apart (layout.apart i c j d h g hj hd e).1) ∙ sym old
          ∙ sym (with_word-column (rows_at place n k flat) i c v j d apart)
      | inl same_column ↦ elim (cases_eq j i) [
        | inr apart ↦ new ∙ get_or-set_other flat (place i c) (place j d) v 0
            (λ e. apart (layout.apart i c j d h g hj hd e).0) ∙ sym old
            ∙ sym (ap (λ row. get_or row d 0) (with_word-row (rows_at place n k flat) i c v j apart))
        | inl same_row ↦
            let there = word_at-rows_at place n k (set flat (place i c) v) i c h g
            ∙ get_or-set_same flat (place i c) v 0 (omega (arith, layout.within i c h g, full))
            ∙ sym (with_word-same n k (rows_at place n k flat) i c v grid h g) in
            cc
      ]
    ])

-- a vector of zeros holds rows of zeros
pub rows_at-zeros : (place : ℕ → ℕ → ℕ) (n k : ℕ) → IsLayout place n k
    → rows_at place n k (replicate (n * k) 0) ≡ zeros n k
rows_at-zeros place n k layout = same_grids n k (rows_at place n k (replicate (n * k) 0)) (zeros n k)
    (IsGrid-rows_at place n k (replicate (n * k) 0)) (IsGrid-zeros n k) (λ i c h g. word_at-rows_at place n k
    (replicate (n * k) 0) i c h g ∙ get_or-replicate (n * k) (place i c) 0 0 (layout.within i c h g)
    ∙ sym (ap (λ row. get_or row c 0) (get_or-replicate n i (replicate k 0) [] h) ∙ get_or-replicate k c 0 0 g))
