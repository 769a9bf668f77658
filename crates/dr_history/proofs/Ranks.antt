-- Ranks: how many members of a mask stand before one of them.
use Rattle.std.{specs.{Int.{bit_at, trailing_zeros}, List.{count_by, sum_by}}, proofs.lemmas.Bool.cases_lt}
use Rattle.std.proofs.Common.{◌≡◌, ℕ, suc, ◌+◌, ◌-◌, true, false, Bool, refl, ap, ◌∙◌, [], ◌∷◌, length, if◌then◌else◌, length-append, zero, ◌/◌, ◌%◌, ◌^◌, sym, arith, count_ones, ◌<◌, ◌⊎◌, inl, inr, ◌++◌, slice_get, Some, ◌≤◌, get_or, cond, subst, List, w16, None, ◌*◌, bit_and, ◌&&◌, ap₂}
use Rattle.std.proofs.lemmas.List.{get_or_append_left, get_or-append_right, Sums.{sum_by-append, sum_by-cons}}
use Rattle.std.proofs.lemmas.{Nat.{and_mask, one_shl, Bits.bit_at-trailing_zeros}, Option.slice_get_within}
use Rattle.dr_entry.proofs.{ListPlaces.{seam, get_more}, NumberFacts.{ones_bit, ones_split, ones_one, one}}
use Rattle.dr_history.{specs.Members.{has, members_below, members_of}, proofs.Bits.has_zero}

-- below n + 1 there is one more where n is a member
pub length-members_below_suc : (m n : ℕ)
    → length (members_below m (suc n)) ≡ length (members_below m n) + (if has m n then 1 else 0)
unfolding members_below
length-members_below_suc m n = length-append (members_below m n) (if has m n then n ∷ [] else [])
    ∙ ap (λ (x : ℕ). length (members_below m n) + x) (by (has m n))
  where
    by : (b : Bool) → length (if b then n ∷ [] else []) ≡ (if b then 1 else 0)
    by true = refl
    by false = refl

-- the members below a number are as many as the bits that are set there
length-members_below : (m n : ℕ) → length (members_below m n) ≡ count_ones (m % 2 ^ n)
unfolding members_below
length-members_below m zero = sym (ones_bit (m % 1) (omega arith) ∙ omega arith)
length-members_below m (suc n) = length-members_below_suc m n ∙ bit (length-members_below m n) ∙ sym more
  where
    more : count_ones (m % 2 ^ suc n) ≡ count_ones (m % 2 ^ n) + m / 2 ^ n % 2
    more =
        let e : suc n ≡ n + 1 = omega arith in
        ap (λ (x : ℕ). count_ones (m % 2 ^ x)) e ∙ ones_split m n 1
        ∙ ap (λ (x : ℕ). count_ones (m % 2 ^ n) + x) (ones_one m n)

    bit : length (members_below m n) ≡ count_ones (m % 2 ^ n)
        → length (members_below m n) + (if has m n then 1 else 0) ≡ count_ones (m % 2 ^ n) + m / 2 ^ n % 2
    bit e = grind arith

-- and so are all members
pub length-members_of : (m : ℕ) → m < 2 ^ 16 → length (members_of m) ≡ count_ones m
unfolding members_of
length-members_of m l =
    let e : m % 65536 ≡ m = omega arith in length-members_below m 16 ∙ ap count_ones e

-- a member of the mask stands at its rank
at_rank_below : (m k n : ℕ) → k < n → has m k ≡ true
    → slice_get (members_below m n) (length (members_below m k)) ≡ Some k
unfolding members_below
at_rank_below m k zero l h = absurd (omega arith)
at_rank_below m k (suc n) l h = by (last_or_below k n l) (at_rank_below m k n)
  where
    last_or_below : (i j : ℕ) → i < suc j → (i ≡ j) ⊎ (i < j)
    last_or_below i j p = grind arith

    by : (k ≡ n) ⊎ (k < n) → (k < n → has m k ≡ true
        → slice_get (members_below m n) (length (members_below m k)) ≡ Some k)
        → slice_get (members_below m n ++ (if has m n then n ∷ [] else [])) (length (members_below m k)) ≡ Some k
    by (inl e) rest = rw (← e, h) (seam (members_below m k) k)
    by (inr p) rest = get_more (members_below m n) (if has m n then n ∷ [] else [])
        (length (members_below m k)) k (rest p h)

-- a member of the mask stands at its rank in the list of all
pub at_rank_of : (m k : ℕ) → k < 16 → has m k ≡ true → slice_get (members_of m) (length (members_below m k)) ≡ Some k
unfolding members_of
at_rank_of m k l h = at_rank_below m k 16 l h

-- a mask with a member has some
pub some_member : (m k : ℕ) → k < 16 → has m k ≡ true → 0 < length (members_of m)
some_member m k l h =
    let within = slice_get_within (members_of m) (length (members_below m k)) k (at_rank_of m k l h) in
    omega (arith, within)

-- each number of the list is one of a member
each_below : (mask n j : ℕ) → j < length (members_below mask n) → has mask (get_or (members_below mask n) j 0) ≡ true
unfolding members_below
each_below mask zero j l = absurd (omega arith)
each_below mask (suc n) j l = elim (cases_lt j (length (members_below mask n))) [
  | inl within ↦ ap (has mask) (get_or_append_left (members_below mask n)
      (cond (has mask n) (n ∷ []) []) 0 j within) ∙ each_below mask n j within
  | inr past ↦ last (has mask n) refl
      (omega (arith, l, length-append (members_below mask n) (cond (has mask n) (n ∷ []) []))) past
]
  where
    last : (b : Bool) → has mask n ≡ b → j < length (members_below mask n) + length (cond (has mask n) (n ∷ []) [])
        → length (members_below mask n) ≤ j
        → has mask (get_or (members_below mask n ++ cond (has mask n) (n ∷ []) []) j 0) ≡ true
    last true e short past =
        let one : length (cond (has mask n) (n ∷ []) []) ≡ 1 = rw e refl in
        let first : j - length (members_below mask n) ≡ 0 = omega (arith, short, one, past) in
        ap (has mask) (get_or-append_right (members_below mask n) (cond (has mask n) (n ∷ []) [])
        (length (members_below mask n)) j 0 refl past
        ∙ ap (λ (i : ℕ). get_or (cond (has mask n) (n ∷ []) []) i 0) first ∙ rw e refl) ∙ e
    last false e short past = let none : length (cond (has mask n) (n ∷ []) []) ≡ 0 = rw e refl in
        absurd (omega (arith, short, none, past))

pub each_member : (mask j : ℕ) → j < length (members_of mask) → has mask (get_or (members_of mask) j 0) ≡ true
unfolding members_of
each_member mask j l = each_below mask 16 j l

-- nobody is below the first number whose bit is set
none_below : (m k : ℕ) → ((i : ℕ) → i < k → bit_at m i ≡ 0) → members_below m k ≡ []
unfolding members_below
none_below m zero none = refl
none_below m (suc k) none =
    let e : has m k ≡ false = grind (arith, none k) in rw e (rw (none_below m k (λ i l. none i (omega arith))) refl)

-- the lowest bit is the first member, and no member is lower
pub first_member : (m : ℕ) → 0 < m → m < 2 ^ 16 → slice_get (members_of m) 0 ≡ Some (trailing_zeros w16 m)
first_member m p l =
    let z = bit_at-trailing_zeros w16 m p l in
    let e : has m (trailing_zeros w16 m) ≡ true = grind (arith, z.1) in
    subst (λ (x : List ℕ). slice_get (members_of m) (length x) ≡ Some (trailing_zeros w16 m))
    (none_below m (trailing_zeros w16 m) z.2) (at_rank_of m (trailing_zeros w16 m) z.0 e)

-- nobody is first where nobody is in the mask
no_members : (n : ℕ) → members_below 0 n ≡ []
unfolding members_below
no_members zero = refl
no_members (suc n) = rw (has_zero n) (rw (no_members n) refl)

-- the mask 0 has no first member
pub no_first : slice_get (members_of 0) 0 ≡ None
unfolding members_of
no_first = rw (no_members 16) refl

-- the rank, as the code counts it
pub ones_below : (m n : ℕ) → n < 16 → count_ones (bit_and m (1 * 2 ^ n % 2 ^ 16 - 1)) ≡ length (members_below m n)
ones_below m n l = rw (one_shl n 16 l) (ap count_ones (and_mask m n) ∙ sym (length-members_below m n))

-- the search begins with all 16 bits
pub rank_within : (m r : ℕ) → m < 2 ^ 16 → r < length (members_of m) → r < count_ones (m / 1 % 65536)
rank_within m r l p =
    let e : m / 1 % 65536 ≡ m = omega arith in rw e (omega (arith, length-members_of m l))

-- a span of one bit in which a bit of some rank stands is that bit, and its rank is 0
pub one_left : (m n rank : ℕ) → rank < count_ones (m / 2 ^ n % 2) → (has m n ≡ true) × (rank ≡ 0)
one_left m n rank l = (grind (arith, ones_one m n), grind (arith, ones_one m n))

-- the search for a rank ends at the member of this rank
pub found : (m n rank r : ℕ) → rank < count_ones (m / 2 ^ n % 2)
    → count_ones (m % 2 ^ n) + rank ≡ count_ones (m % 1) + r → length (members_below m n) ≡ r
found m n rank r l e =
    let none : count_ones (m % 1) ≡ 0 = ones_bit (m % 1) (omega arith) ∙ omega arith in
    let zero_rank = (one_left m n rank l).1 in length-members_below m n ∙ omega arith

-- the numbers that pass a test are as many as the members of the mask that has those of them
pub count_below : (p : ℕ → Bool) (m k n : ℕ) → ((i : ℕ) → i < n → has k i ≡ (has m i && p i))
    → length (members_below k n) ≡ count_by p (members_below m n)
unfolding members_below
count_below p m k zero same = refl
count_below p m k (suc n) same = length-members_below_suc k n ∙ ap₂ (λ (x : ℕ) (b : Bool). x + (if b then 1 else 0))
    (count_below p m k n (λ i l. same i (omega (arith, l)))) (same n (omega arith)) ∙ by (has m n) (p n) refl
    ∙ sym (sum_by-append (λ x. cond (p x) 1 0) (members_below m n) (if has m n then n ∷ [] else []))
  where
    by : (a b : Bool) → p n ≡ b → count_by p (members_below m n) + (if (a && b) then 1 else 0)
        ≡ count_by p (members_below m n) + sum_by (λ x. cond (p x) 1 0) (if a then n ∷ [] else [])
    by true b e = ap (λ (x : ℕ). count_by p (members_below m n) + x)
        (sym (sum_by-cons (λ x. cond (p x) 1 0) n [] ∙ ap (λ c. cond c 1 0 + 0) e ∙ omega arith))
    by false b e = refl

-- where each member counts for no more, and one for less, all do: of a mask once, of another twice
falls : (a p b q i n : ℕ) → ((k : ℕ) → one (has a k) + 2 * one (has p k) ≤ one (has b k) + 2 * one (has q k))
    → length (members_below a n) + 2 * length (members_below p n)
    ≤ length (members_below b n) + 2 * length (members_below q n)
unfolding members_below
falls a p b q i zero each = omega arith
falls a p b q i (suc n) each = omega (
  arith,
  length-members_below_suc a n,
  length-members_below_suc p n,
  length-members_below_suc b n,
  length-members_below_suc q n,
  falls a p b q i n each,
  each n,
)

pub falls-less : (a p b q i n : ℕ) → ((k : ℕ) → one (has a k) + 2 * one (has p k) ≤ one (has b k) + 2 * one (has q k))
    → one (has a i) + 2 * one (has p i) < one (has b i) + 2 * one (has q i) → i < n
    → length (members_below a n) + 2 * length (members_below p n)
    < length (members_below b n) + 2 * length (members_below q n)
unfolding members_below
falls-less a p b q i zero each less l = absurd (omega (arith, l))
falls-less a p b q i (suc n) each less l = by (cases_lt i n) (falls-less a p b q i n each less)
  where
    here : i ≡ n → one (has a n) + 2 * one (has p n) < one (has b n) + 2 * one (has q n)
    here e = subst (λ k. one (has a k) + 2 * one (has p k) < one (has b k) + 2 * one (has q k)) e less

    by : (i < n) ⊎ (n ≤ i) → (i < n → length (members_below a n) + 2 * length (members_below p n)
        < length (members_below b n) + 2 * length (members_below q n))
        → length (members_below a (suc n)) + 2 * length (members_below p (suc n))
        < length (members_below b (suc n)) + 2 * length (members_below q (suc n))
    by (inl less) rest = omega (
      arith,
      length-members_below_suc a n,
      length-members_below_suc p n,
      length-members_below_suc b n,
      length-members_below_suc q n,
      rest less,
      each n,
    )
    by (inr last) rest = omega (
      arith,
      length-members_below_suc a n,
      length-members_below_suc p n,
      length-members_below_suc b n,
      length-members_below_suc q n,
      falls a p b q i n each,
      here (omega (arith, last, l)),
    )

-- at first all members of the first view, and all late ones twice
pub sums : (a p b n : ℕ) → ((k : ℕ) → one (has a k) + one (has p k) ≤ one (has b k))
    → length (members_below a n) + length (members_below p n) ≤ length (members_below b n)
unfolding members_below
sums a p b zero each = omega arith
sums a p b (suc n) each = omega (
  arith,
  length-members_below_suc a n,
  length-members_below_suc p n,
  length-members_below_suc b n,
  sums a p b n each,
  each n,
)
