-- Masks of the members that pass a test.
use Rattle.std.specs.{Int.bit_at, List.filter}
use Rattle.std.proofs.Common.{ℕ, ◌+◌, ◌≤◌, arith, length, ◌≡◌, ◌*◌, ◌^◌, ◌<◌, ◌==◌, Bool, true, false, ap, ◌∙◌, if◌then◌else◌, ◌-◌, suc, ◌&&◌, nat_lt, ◌⊎◌, inl, inr, ◌≢◌, refl, zero, ◌||◌, [], ◌∷◌, sym, List, ◌++◌}
use Rattle.std.proofs.lemmas.{Bool.{cases_lt, cases_eq}, List.Elements.filter-append}
use Rattle.std.proofs.lemmas.Nat.Bits.{bit_at_cat_low, bit_at_above, bit_at_cat_high, bit_at-lt, same_from_bits}
use Rattle.dr_entry.proofs.{BoolFacts.further, ListFacts.{among, among_append}, ListParts.one}
use Rattle.dr_entry.proofs.NumberFacts.{more_small, phase, total}
use Rattle.dr_history.{specs.Members.{members_below, has, members_of}, proofs.Bits.has_zero}

pub none : (all one other : ℕ) → length (members_below one 0) + length (members_below other 0)
    ≤ length (members_below all 0)
unfolding members_below
none all one other = omega arith

more_low : (m n i : ℕ) (t : Bool) → i < n → has (m + (if t then 2 ^ n else 0)) i ≡ has m i
more_low m n i true lt =
    let e : m + 2 ^ n ≡ 1 * 2 ^ n + m = omega arith in
    ap (λ (x : ℕ). has x i) e ∙ ap (λ (x : ℕ). x == 1) (bit_at_cat_low 1 n m i lt)
more_low m n i false lt =
    let e : m + 0 ≡ m = omega arith in ap (λ (x : ℕ). has x i) e

more_top : (m n : ℕ) (t : Bool) → m < 2 ^ n → has (m + (if t then 2 ^ n else 0)) n ≡ t
more_top m n true small =
    let e : m + 2 ^ n ≡ 1 * 2 ^ n + m = omega arith in
    let z : n - n ≡ 0 = omega arith in
    let one : bit_at (m + 2 ^ n) n ≡ 1 = ap (λ (x : ℕ). bit_at x n) e ∙ bit_at_cat_high 1 n m n small (omega arith)
    ∙ ap (λ (x : ℕ). bit_at 1 x) z in
    ap (λ (x : ℕ). x == 1) one
more_top m n false small =
    let e : m + 0 ≡ m = omega arith in
    ap (λ (x : ℕ). has x n) e ∙ grind (arith, bit_at_above m n n small (omega arith))

pub has_below_suc : (test : ℕ → Bool) (m n i : ℕ) → m < 2 ^ n → has m i ≡ (nat_lt i n && test i)
    → has (m + (if test n then 2 ^ n else 0)) i ≡ (nat_lt i (suc n) && test i)
has_below_suc test m n i small rest = by (cases_lt i n) (cases_lt n i)
  where
    by : (i < n) ⊎ (n ≤ i) → (n < i) ⊎ (i ≤ n)
        → has (m + (if test n then 2 ^ n else 0)) i ≡ (nat_lt i (suc n) && test i)
    by (inl l) q = more_low m n i (test n) l ∙ rest ∙ grind arith
    by (inr g) (inl l) = grind
        (arith, bit_at_above (m + (if test n then 2 ^ n else 0)) (suc n) i (more_small m n (test n) small) l)
    by (inr g) (inr h) =
        let e : i ≡ n = omega arith in rw e (more_top m n (test n) small ∙ grind arith)

-- masks with the same members are one
pub same_masks : (a b : ℕ) → ((i : ℕ) → has a i ≡ has b i) → a ≡ b
same_masks a b same = same_from_bits a b (λ i. grind (arith, same i, bit_at-lt a i, bit_at-lt b i))

-- who is in a mask of so many bits has a number below it
pub has_within : (mask n i : ℕ) → mask < 2 ^ n → has mask i ≡ true → i < n
has_within mask n i small there = by (cases_lt i n)
  where
    by : (i < n) ⊎ (n ≤ i) → i < n
    by (inl l) = l
    by (inr above) = absurd (cc (there, none))
      where
        none : has mask i ≡ false
        none = grind (arith, bit_at_above mask n i small above)

-- the least member of a mask that has one
pub some_number : (mask n : ℕ) → has mask n ≡ true → 0 < mask
some_number mask n there = by (cases_lt 0 mask)
  where
    by : (0 < mask) ⊎ (mask ≤ 0) → 0 < mask
    by (inl l) = l
    by (inr g) =
        let e : mask ≡ 0 = omega arith in absurd (cc (there, ap (λ (x : ℕ). has x n) e, has_zero n))

pub among_below : (mask n i : ℕ) → among (members_below mask n) i ≡ (nat_lt i n && has mask i)
unfolding members_below
among_below mask zero i = grind arith
among_below mask (suc n) i = among_append (members_below mask n) (if has mask n then n ∷ [] else []) i
    ∙ (ap (λ b. b || among (if has mask n then n ∷ [] else []) i) (among_below mask n i)
    ∙ by (has mask n) refl (cases_eq i n))
  where
    one : Bool → ℕ → Bool
    one b j = among (if b then n ∷ [] else []) j

    by : (b : Bool) → has mask n ≡ b → (i ≡ n) ⊎ (i ≢ n)
        → ((nat_lt i n && has mask i) || one (has mask n) i) ≡ (nat_lt i (suc n) && has mask i)
    by true there (inl same) = rw (there, same) (grind (arith, there))
    by true there (inr apart) = rw there (grind (arith, apart))
    by false none (inl same) = rw (none, same) (grind (arith, none))
    by false none (inr apart) = rw none (grind (arith, apart))

-- nobody is in the mask 0
pub nobody : members_of 0 ≡ []
unfolding members_of members_below
nobody = refl

below : (p : ℕ → Bool) (all part : ℕ) → ((i : ℕ) → has part i ≡ (has all i && p i)) → (n : ℕ)
    → members_below part n ≡ filter p (members_below all n)
unfolding members_below
below p all part each zero = refl
below p all part each (suc n) = rw (each n, below p all part each n, one p n (has all n) (p n) refl)
    (sym (filter-append p (members_below all n) (if has all n then n ∷ [] else [])))

-- a mask of those members of another that pass a test has the members that the test keeps
pub members_kept : (p : ℕ → Bool) (all part : ℕ) → ((i : ℕ) → has part i ≡ (has all i && p i))
    → members_of part ≡ filter p (members_of all)
unfolding members_of
members_kept p all part each = below p all part each 16

-- whoever is in a mask of 16 bits is below 16
pub below_sixteen : (mask x n : ℕ) → mask < 2 ^ 16 → 16 ≤ n → has mask x ≡ true → x < n
below_sixteen mask x n small all there = by (cases x)
  where
    cases : (x : ℕ) → (x < 16) ⊎ (16 ≤ x)
    cases x = grind arith

    by : (x < 16) ⊎ (16 ≤ x) → x < n
    by (inl less) = omega (arith, less, all)
    by (inr more) = absurd (grind (arith, bit_at_above mask 16 x small more, there))

-- and whoever is not below it is not in the mask
pub none_above : (mask x : ℕ) → mask < 2 ^ 16 → 16 ≤ x → has mask x ≡ false
none_above mask x small more = ap (λ n. n == 1) (bit_at_above mask 16 x small more)

-- one view on they are farther, where there are others in it
pub total_rises : (named : ℕ → Bool) (was now : ℕ) → ((s : ℕ) → has was s ≡ true → named s ≡ true)
    → ((s : ℕ) → has now s ≡ true → (has was s ≡ true) ⊎ (named s ≡ false)) → (n : ℕ) → (total named
    (has was) n ≤ total (λ s. has now s || named s) (has now) n) × ((members_below now n ≡ members_below was n)
    ⊎ (total named (has was) n < total (λ s. has now s || named s) (has now) n))
unfolding members_below total
total_rises named was now holds comes zero = let e : 0 ≤ 0 = omega arith in (e, inl refl)
total_rises named was now holds comes (suc n) = by (total_rises named was now holds comes n)
    (further (named n) (has was n) (has now n) (holds n) (comes n))
  where
    old : ℕ
    old = total named (has was) n

    new : ℕ
    new = total (λ s. has now s || named s) (has now) n

    step : ℕ
    step = phase (named n) (has was n)

    stride : ℕ
    stride = phase (has now n || named n) (has now n)

    by : (old ≤ new) × ((members_below now n ≡ members_below was n) ⊎ (old < new))
        → (step ≤ stride) × ((has now n ≡ has was n) ⊎ (step < stride)) → (old + step ≤ new + stride)
        × ((members_below now n ++ (if has now n then n ∷ [] else [])
        ≡ members_below was n ++ (if has was n then n ∷ [] else [])) ⊎ (old + step < new + stride))
    by (most, inl same) (more, inl alike) = (
      omega (arith, most, more),
      inl (ap (λ (xs : List ℕ). xs ++ (if has now n then n ∷ [] else [])) same
          ∙ ap (λ (b : Bool). members_below was n ++ (if b then n ∷ [] else [])) alike),
    )
    by (most, inl same) (more, inr less) = (omega (arith, most, more), inr (omega (arith, most, less)))
    by (most, inr less) (more, either) = (omega (arith, most, more), inr (omega (arith, less, more)))
