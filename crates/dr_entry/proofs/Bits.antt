-- Facts of bits and of lists of marks.
use Rattle.std.specs.{Fmt.decimal, Int.bit_at, List.{flat_map, filter}, Prelude.map}
use Rattle.std.proofs.Common.{◌≡◌, refl, ℕ, ◌+◌, ◌<◌, arith, List, [], ◌∷◌, ◌++◌, All, codes, length, length-append, ◌-◌, ◌/◌, ◌%◌, ◌^◌, ◌≤◌, ◌⊎◌, inl, inr, sym, ap, ◌∙◌, ◌↔◌, EachIndex, get_or, ◌*◌, bit_or, below_more, w16, Bool, false, cond, zero, suc, Contains}
use Rattle.std.proofs.lemmas.{Bool.cases_lt, Fmt.decimal_nonempty, List.Elements.{All-head, All-cons}}
use Rattle.std.proofs.lemmas.Nat.{div-add-mod', mod_below, pow_pos}
use Rattle.std.proofs.lemmas.Nat.Bits.{bit_at_above, bit_at_cat_low, same_from_bits, bit_at_ones, bit_at_ones_above, bit_at_set_other, bit_at_set_same}
use Rattle.dr_entry.proofs.ListFacts.{joined, default_past, Lacks}

-- no number is nothing
pub joined_none : (ys : List ℕ) → All (λ m. m < 16) ys → length (joined ys) ≡ 0 → ys ≡ []
joined_none [] low none = refl
joined_none (y ∷ ys) low none =
    let some = decimal_nonempty y (omega (arith, All-head (λ m. m < 16) y ys low)) in
    absurd (omega (arith, some, none, length-append (decimal y) (flat_map (λ m. codes "," ++ decimal m) ys)))

-- a mask without bits from k on is below 2 ^ k
pub few_bits : (mask k : ℕ) → ((i : ℕ) → k ≤ i → bit_at mask i ≡ 0) → mask < 2 ^ k
few_bits mask k clear =
    let low : mask % 2 ^ k < 2 ^ k = mod_below mask (2 ^ k) (pow_pos k) in
    let same : mask ≡ mask % 2 ^ k = same_from_bits mask (mask % 2 ^ k) (λ i. by i low (cases_lt i k)) in
    omega (arith, same, low)
  where
    by : (i : ℕ) → mask % 2 ^ k < 2 ^ k → (i < k) ⊎ (k ≤ i) → bit_at mask i ≡ bit_at (mask % 2 ^ k) i
    by i low (inl l) = ap (λ (m : ℕ). bit_at m i) (sym (div-add-mod' mask (2 ^ k)))
        ∙ bit_at_cat_low (mask / 2 ^ k) k (mask % 2 ^ k) i l
    by i low (inr g) = clear i g ∙ sym (bit_at_above (mask % 2 ^ k) k i low g)

-- a mask of words that equal a number has all its bits exactly where each word does
pub all_marked : (n : ℕ) (tags : List ℕ) (mask to : ℕ) → length tags ≡ n
    → EachIndex tags (λ i. (bit_at mask i ≡ 1) ↔ (get_or tags i 0 ≡ to))
    → ((i : ℕ) → length tags ≤ i → bit_at mask i ≡ 0) → (mask ≡ 2 ^ n - 1) ↔ ((i : ℕ) → i < n → get_or tags i 0 ≡ to)
all_marked n tags mask to long set clear = (
  λ e i l. (set i (omega (arith, l, long))).0 (ap (λ (m : ℕ). bit_at m i) e ∙ bit_at_ones n i l),
  λ each. same_from_bits mask (2 ^ n - 1) (λ i. by i each (cases_lt i n)),
)
  where
    by : (i : ℕ) → ((j : ℕ) → j < n → get_or tags j 0 ≡ to) → (i < n) ⊎ (n ≤ i) → bit_at mask i ≡ bit_at (2 ^ n - 1) i
    by i each (inl l) = (set i (omega (arith, l, long))).1 (each i l) ∙ sym (bit_at_ones n i l)
    by i each (inr g) = clear i (omega (arith, g, long)) ∙ sym (bit_at_ones_above n i g)

-- the mask of the items that are there, item by item
pub record Marks (is : ℕ → Type 0) (mask i : ℕ) : Type 0 where
  pub set : (j : ℕ) → j < i → (bit_at mask j ≡ 1) ↔ is j
  pub clear : (j : ℕ) → i ≤ j → bit_at mask j ≡ 0

pub one_marked : (is : ℕ → Type 0) (mask i : ℕ) → i < 16 → is i → Marks is mask i
    → Marks is (bit_or mask (1 * 2 ^ i % 2 ^ 16)) (i + 1)
one_marked is mask i within here before = record {
  set = below_more _ _ (λ j h. let e = bit_at_set_other w16 mask i within j (omega arith) in
      (λ g. (before.set j h).0 (sym e ∙ g), λ g. e ∙ (before.set j h).1 g))
      (let e = bit_at_set_same w16 mask i within in (λ _. here, λ _. e));
  clear = λ j h. bit_at_set_other w16 mask i within j (omega arith) ∙ before.clear j (omega arith);
}

-- each list is short, where all are, and there is none behind them
pub few_at : (lists : List (List (List ℕ))) (s n : ℕ) → All (λ list. length list ≤ n) lists
    → length (get_or lists s []) ≤ n
few_at lists s n few = by (cases_lt s (length lists))
  where
    by : (s < length lists) ⊎ (length lists ≤ s) → length (get_or lists s []) ≤ n
    by (inl l) = few s [] l
    by (inr l) = rw (default_past lists s [] l) (omega arith)

pub none_pass : (f : ℕ → Bool) (xs : List ℕ) → ((k : ℕ) → f k ≡ false) → length (filter f xs) ≡ 0
none_pass f [] none = refl
none_pass f (x ∷ xs) none = ap (λ b. length (cond b (x ∷ filter f xs) (filter f xs))) (none x) ∙ none_pass f xs none

pub all_map : {X Y : Type 0} (f : X → Y) (P : Y → Type 0) → ((x : X) → P (f x)) → (xs : List X) → All P (map f xs)
all_map f P holds [] = λ k d within. absurd (omega (arith, within))
all_map f P holds (x ∷ xs) = All-cons P (f x) (map f xs) (holds x) (all_map f P holds xs)

pub lacks : (n : ℕ) (es : List ℕ) → Lacks n es → Contains es n → ⊥
lacks n [] none (i, below, is) = omega (arith, below)
lacks n (e ∷ es) none (zero, below, is) = none.0 is
lacks n (e ∷ es) none (suc i, below, is) = lacks n es none.1 (i, omega (arith, below), is)
