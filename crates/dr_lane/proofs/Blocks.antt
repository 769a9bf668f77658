-- What a block of words, or one word more, brings to a count and to a mask.
use Rattle.std.{specs.{Int.bit_at, List.count_by}, proofs.{Math.Seq.take-add, lemmas.Nat.shl_whole}}
use Rattle.std.specs.{Int.{Bits.or_shifted_r, RustNames.count_ones}, Prelude.Contains, Simd.Lanes.{chunk, mask_l}}
use Rattle.std.proofs.Common.{◌≡◌, ◌↔◌, ℕ, ◌+◌, ◌*◌, ◌/◌, ◌%◌, ◌^◌, ◌<◌, ◌≤◌, ◌==◌, ◌⊎◌, min, ltb, Bool, true, false, cond, eqb, List, [], ◌∷◌, ◌++◌, bit_or, drop, get_or, length, map, take, refl, sym, ap, ap₂, subst, ◌∙◌, inl, inr, arith, pow-suc}
use Rattle.std.proofs.lemmas.Bool.{cases_eq, cases_lt, cond_both, eq-eqb, ltb-false, ltb-true, ne_eqb}
use Rattle.std.proofs.lemmas.List.{length-map, length-take, length-take-le, map-append, get_or-map, get_or_default, get_or_past, take_more}
use Rattle.std.proofs.lemmas.{List.Sums.sum_by-append, Simd.{bit_mask_l, length-chunk, mask_l-lt, ones-mask_l}}

-- a mask behind a mask
mask_l-append : (ms ns : List Bool) → mask_l (ms ++ ns) ≡ mask_l ms + 2 ^ length ms * mask_l ns
mask_l-append [] ns = omega arith
mask_l-append (b ∷ ms) ns = omega (arith, mask_l-append ms ns, ap (λ x. x * mask_l ns) (pow-suc 2 (length ms)))

or_behind : (p : ℕ → Bool) (xs ys : List ℕ) (k : ℕ) → length xs ≡ k → k + length ys ≤ 64
    → bit_or (mask_l (map p xs)) (mask_l (map p ys) * 2 ^ k % 2 ^ 64) ≡ mask_l (map p (xs ++ ys))
or_behind p xs ys k long short =
    let front : length (map p xs) ≡ k = length-map xs p ∙ long in
    let low = subst (λ (n : ℕ). mask_l (map p xs) < 2 ^ n) front (mask_l-lt (map p xs)) in
    let high = subst (λ (n : ℕ). mask_l (map p ys) < 2 ^ n) (length-map ys p) (mask_l-lt (map p ys)) in
    ap (bit_or (mask_l (map p xs))) (shl_whole (mask_l (map p ys)) (length ys) k 64 high (omega arith))
    ∙ or_shifted_r (mask_l (map p ys)) k (mask_l (map p xs)) low
    ∙ sym (ap mask_l (map-append p xs ys) ∙ mask_l-append (map p xs) (map p ys)
    ∙ ap (λ (n : ℕ). mask_l (map p xs) + 2 ^ n * mask_l (map p ys)) front ∙ omega arith)

-- a block more in a mask
pub block_marked : (p : ℕ → Bool) (words : List ℕ) (at mask marks : ℕ) → at + 4 ≤ length words
    → length words ≤ 64 → mask ≡ mask_l (map p (take at words)) → marks ≡ mask_l (map p (chunk at 4 words))
    → bit_or mask (marks * 2 ^ at % 2 ^ 64) ≡ mask_l (map p (take (at + 4) words))
block_marked p words at mask marks room few so here = ap₂ (λ m n. bit_or m (n * 2 ^ at % 2 ^ 64)) so here
    ∙ or_behind p (take at words) (chunk at 4 words) at (length-take-le at words (omega arith))
    (omega (arith, length-chunk at 4 words room))
    ∙ ap (λ (xs : List ℕ). mask_l (map p xs)) (sym (take-add at 4 words))

-- a word more
pub word_marked : (p : ℕ → Bool) (words : List ℕ) (i mask : ℕ) → i < length words
    → length words ≤ 64 → mask ≡ mask_l (map p (take i words)) → p (get_or words i 0) ≡ true
    → bit_or mask (1 * 2 ^ i % 2 ^ 64) ≡ mask_l (map p (take (i + 1) words))
word_marked p words i mask room few so same = ap₂ (λ (m n : ℕ). bit_or m (n * 2 ^ i % 2 ^ 64)) so
    (sym (ap (λ b. mask_l (b ∷ [])) same))
    ∙ or_behind p (take i words) (get_or words i 0 ∷ []) i (length-take-le i words (omega arith)) (omega arith)
    ∙ ap (λ (xs : List ℕ). mask_l (map p xs)) (sym (take_more words i 0 room))

pub word_unmarked : (p : ℕ → Bool) (words : List ℕ) (i : ℕ) → i < length words → p (get_or words i 0) ≡ false
    → mask_l (map p (take i words)) ≡ mask_l (map p (take (i + 1) words))
word_unmarked p words i room other = sym (ap (λ (xs : List ℕ). mask_l (map p xs)) (take_more words i 0 room)
    ∙ ap mask_l (map-append p (take i words) (get_or words i 0 ∷ []))
    ∙ mask_l-append (map p (take i words)) (p (get_or words i 0) ∷ [])
    ∙ ap (λ b. mask_l (map p (take i words)) + 2 ^ length (map p (take i words)) * mask_l (b ∷ [])) other
    ∙ omega arith)

-- a block more in a count
pub block_counted : (p : ℕ → Bool) (words : List ℕ) (at count marks : ℕ) → count ≡ count_by p (take at words)
    → marks ≡ mask_l (map p (chunk at 4 words)) → count + count_ones marks ≡ count_by p (take (at + 4) words)
block_counted p words at count marks so here = ap₂ (λ m n. m + count_ones n) so here ∙ ap (λ n. count_by p
    (take at words) + n) (ones-mask_l p (chunk at 4 words)) ∙ sym (sum_by-append (λ x. cond (p x) 1 0)
    (take at words) (chunk at 4 words)) ∙ ap (count_by p) (sym (take-add at 4 words))

-- the bits of a mask
pub bit_marked : (words : List ℕ) (to i : ℕ) → i < length words
    → (bit_at (mask_l (map (λ word. word == to) words)) i ≡ 1) ↔ (get_or words i 0 ≡ to)
bit_marked words to i room =
    let is : bit_at (mask_l (map (λ word. word == to) words)) i ≡ cond (get_or words i 0 == to) 1 0
    = bit_mask_l (map (λ word. word == to) words) i
    ∙ ap (λ b. cond b 1 0) (get_or-map (λ word. word == to) words i 0 false room) in
    elim (cases_eq (get_or words i 0) to) [
      | inl same ↦ (λ h. same, λ h. is ∙ ap (λ b. cond b 1 0) (eq-eqb (get_or words i 0) to same))
      | inr other ↦ (λ h. absurd (omega (arith, h, is ∙ ap (λ b. cond {A = ℕ} b 1 0) (ne_eqb (get_or words i 0) to other))), λ h. absurd (other h))
    ]

pub bit_clear : (words : List ℕ) (p : ℕ → Bool) (i : ℕ) → length words ≤ i → bit_at (mask_l (map p words)) i ≡ 0
bit_clear words p i past = bit_mask_l (map p words) i
    ∙ ap (λ b. cond b 1 0) (get_or_past (map p words) i false (omega (arith, length-map words p)))

-- what holds of two numbers holds of the least of them
pub min_keeps : (P : ℕ → Type 0) (a b : ℕ) → P a → P b → P (min a b)
min_keeps P a b p q = elim (cases_lt a b) [
  | inl less ↦ subst P (omega (arith, less)) p
  | inr more ↦ subst P (omega (arith, more)) q
]

-- the lower of two numbers
abbrev pub lower_of : ℕ → ℕ → ℕ
lower_of a b = cond (ltb a b) a b

pub lower_keeps : (P : ℕ → Type 0) (a b : ℕ) → P a → P b → P (lower_of a b)
lower_keeps P a b p q = cond_both (ltb a b) a b P (λ e. p) (λ e. q)

pub lower_below : (a b : ℕ) → (lower_of a b ≤ a) × (lower_of a b ≤ b)
lower_below a b = cond_both (ltb a b) a b (λ n. (n ≤ a) × (n ≤ b)) (λ e. (omega arith, omega (arith, ltb-true a b e)))
    (λ e. (omega (arith, ltb-false a b e), omega arith))

-- an element of a list stands in it
pub stands : (xs : List ℕ) (i : ℕ) → i < length xs → Contains xs (get_or xs i 0)
stands xs i room = (i, room, get_or_default xs i (get_or xs i 0) 0 room)

-- what holds of each element holds of one that stands in the list
pub of_standing : (P : ℕ → Type 0) (xs : List ℕ) (x : ℕ) → ((i : ℕ) → i < length xs → P (get_or xs i 0))
    → Contains xs x → P x
of_standing P xs x each there = subst P (sym (get_or_default xs there.0 x 0 there.1) ∙ there.2) (each there.0 there.1)
