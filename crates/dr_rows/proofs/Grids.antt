-- Rows of words as a grid: what stands at each place, also after a write.
use Rattle.std.proofs.Common.{◌≡◌, ◌≢◌, ℕ, ◌<◌, ◌⊎◌, inl, inr, List, [], length, get_or, set, replicate, sym, ap, ◌∙◌, arith, slice_index, ◌==◌, if◌then◌else◌, refl}
use Rattle.std.proofs.{Math.Path.fun_ext, lemmas.{Bool.{cases_eq, cases_lt}, Grind.{common_steps, same_number_lists}}}
use Rattle.std.proofs.lemmas.List.{get_or-set_same, get_or-set_other, get_or_default, length-set, length-replicate, same_lists, set_past}
use Rattle.std.proofs.lemmas.List.Elements.{All-set, All-replicate}
use Rattle.dr_entry.proofs.NumberFacts.{same_number, other_number}
use Rattle.dr_rows.specs.Words.{IsGrid, row_of, word_at, with_word, zeros, Words, own, with_own, looked, seen, IsWords}
use Rattle.dr_rows.specs.Words as rows

-- two grids with the same words are one
pub same_grids : (n k : ℕ) (xs ys : List (List ℕ)) → IsGrid n k xs → IsGrid n k ys
    → ((i c : ℕ) → i < n → c < k → word_at xs i c ≡ word_at ys i c) → xs ≡ ys
same_grids n k xs ys p q same = same_lists xs ys (p.height ∙ sym q.height) (λ i d h.
    let x = p.width i d h in
    let y = q.width i d (omega (arith, p.height, q.height)) in
    let left = get_or_default xs i d [] h in
    let right = get_or_default ys i d [] (omega (arith, p.height, q.height)) in
    same_number_lists (get_or xs i d) (get_or ys i d) (x ∙ sym y) (λ c g. ap (λ row. get_or row c 0) left
    ∙ same i c (omega (arith, p.height)) (omega (arith, x)) ∙ sym (ap (λ row. get_or row c 0) right)))

-- the word that was written stands at its place
pub with_word-same : (n k : ℕ) (rows : List (List ℕ)) (i c v : ℕ) → IsGrid n k rows → i < n
    → c < k → word_at (with_word rows i c v) i c ≡ v
with_word-same n k rows i c v p h g =
    ap (λ row. get_or row c 0) (get_or-set_same rows i (set (row_of rows i) c v) [] (omega (arith, p.height)))
    ∙ get_or-set_same (row_of rows i) c v 0 (omega (arith, p.width i [] (omega (arith, p.height))))

-- a write to a row leaves the other rows
pub with_word-row : (rows : List (List ℕ)) (i c v j : ℕ) → j ≢ i → row_of (with_word rows i c v) j ≡ row_of rows j
with_word-row rows i c v j other = get_or-set_other rows i j (set (row_of rows i) c v) [] other

-- a write to a column leaves the words of the other columns
pub with_word-column : (rows : List (List ℕ)) (i c v j d : ℕ) → d ≢ c
    → word_at (with_word rows i c v) j d ≡ word_at rows j d
with_word-column rows i c v j d other = elim (cases_eq j i) [
  | inr apart ↦ ap (λ row. get_or row d 0) (with_word-row rows i c v j apart)
  | inl same ↦ elim (cases_lt i (length rows)) [
    | inl within ↦ grind (
      arith,
      common_steps,
      get_or-set_same rows i (set (row_of rows i) c v) [] within,
      get_or-set_other (row_of rows i) c d v 0 other,
    )
    | inr past ↦ ap (λ xs. word_at xs j d) (set_past rows i (set (row_of rows i) c v) past)
  ]
]

-- a word is as before the write, or is the one that was written to its column
pub with_word_either : (n k : ℕ) (rows : List (List ℕ)) (i c v j d : ℕ) → IsGrid n k rows → i < n → c < k
    → (word_at (with_word rows i c v) j d ≡ word_at rows j d) ⊎ ((d ≡ c) × (word_at (with_word rows i c v) j d ≡ v))
with_word_either n k rows i c v j d grid h g = elim (cases_eq d c) [
  | inr apart ↦ inl (with_word-column rows i c v j d apart)
  | inl same ↦ elim (cases_eq j i) [
    | inr apart ↦ inl (ap (λ row. get_or row d 0) (with_word-row rows i c v j apart))
    | inl here ↦ let there = with_word-same n k rows i c v grid h g in inr (same, cc)
  ]
]

-- a write keeps the grid
pub IsGrid-with_word : (n k : ℕ) (rows : List (List ℕ)) (i c v : ℕ) → IsGrid n k rows → i < n
    → IsGrid n k (with_word rows i c v)
IsGrid-with_word n k rows i c v p h = record {
  height = length-set rows i (set (row_of rows i) c v) ∙ p.height;
  width = All-set (λ row. length row ≡ k) rows i (set (row_of rows i) c v)
      (length-set (row_of rows i) c v ∙ p.width i [] (omega (arith, p.height))) p.width;
}

-- rows of zeros are a grid
pub IsGrid-zeros : (n k : ℕ) → IsGrid n k (zeros n k)
IsGrid-zeros n k = record {
  height = length-replicate n (replicate k 0);
  width = All-replicate (λ row. length row ≡ k) n (replicate k 0) (length-replicate k 0);
}

-- a word is as before the write, or is the one that was written to its column
pub written_either : (n k : ℕ) (rows : List (List ℕ)) (i c v j d : ℕ) → IsGrid n k rows → i < n → c < k
    → (word_at (with_word rows i c v) j d ≡ word_at rows j d)
    ⊎ ((j ≡ i) × (d ≡ c) × (word_at (with_word rows i c v) j d ≡ v))
written_either n k rows i c v j d grid h g = elim (cases_eq d c) [
  | inr apart ↦ inl (with_word-column rows i c v j d apart)
  | inl same ↦ elim (cases_eq j i) [
    | inr apart ↦ inl (ap (λ row. get_or row d 0) (with_word-row rows i c v j apart))
    | inl here ↦ let there = with_word-same n k rows i c v grid h g in inr (here, same, cc)
  ]
]

-- setting an own word leaves the others
pub own_left : (w : Words) (c v d : ℕ) → d ≢ c → own (with_own w c v) d ≡ own w d
own_left w c v d apart = with_word-column w.words w.me c v w.me d apart

-- a look at another row leaves the own words
pub own_seen : (w : Words) (i c v d : ℕ) → i ≢ w.me → own (looked w i c v) d ≡ own w d
own_seen w i c v d other = ap (λ (row : List ℕ). get_or row d 0)
    (with_word-row w.words i c v w.me (λ e. other (sym e)))

-- the words of the other rows stay
pub seen_with : (w : Words) (c v i d : ℕ) → i ≢ w.me → seen (with_own w c v) i d ≡ seen w i d
seen_with w c v i d other = ap (λ row. slice_index row d) (with_word-row w.words w.me c v i other)

-- the own words with one of them written
pub own_with : (w : Words) (c v d : ℕ) → IsWords w → c < w.columns → own (with_own w c v) d
    ≡ (if d == c then v else own w d)
own_with w c v d form within = elim (cases_eq d c) [
  | inl same ↦ rw (same, same_number c)
      (with_word-same w.members w.columns w.words w.me c v form.rows form.present within)
  | inr other ↦ rw (other_number d c other) (with_word-column w.words w.me c v w.me d other)
]

-- the own words stay
pub looked_own : (w : Words) (kept : ℕ → ℕ → ℕ) (view i c x : ℕ) → i ≢ w.me
    → ◌≡◌ {A = ℕ → ℕ → ℕ} (λ v d. if v == view then own w d else kept v d)
    (λ v d. if v == view then own (rows.looked w i c x) d else kept v d)
looked_own w kept view i c x other = fun_ext λ v. fun_ext λ d. ap (λ y. if v == view then y else kept v d)
    (sym (ap (λ r. slice_index r d) (with_word-row w.words i c x w.me (λ e. other (sym e)))))

-- and the seen words of the others stay
pub seen_kept : (rows : Words) (c x : ℕ) → ◌≡◌ {A = ℕ → ℕ → ℕ} (λ i d. if i == rows.me then 0 else seen
    (with_own rows c x) i d) (λ i d. if i == rows.me then 0 else seen rows i d)
seen_kept rows c x = fun_ext λ i. fun_ext λ d. elim (cases_eq i rows.me) [
  | inl same ↦ rw (same, same_number rows.me) refl
  | inr other ↦ rw (other_number i rows.me other) (seen_with rows c x i d other)
]
