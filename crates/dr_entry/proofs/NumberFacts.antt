-- Facts of numbers.
use Rattle.std.{specs.Fmt.digit_glyph, proofs.Math.Nat.{add-mul, mul-le-mul, div-add-mod, mul-le-mul_left, mul-suc}}
use Rattle.std.specs.{List.{range_with_len, list_all, Sorted.IsStrictlyIncreasing}, Prelude.{◌==◌, nat_le, max}}
use Rattle.std.proofs.Common.{◌≡◌, ◌≢◌, ℕ, true, not, arith, ◌+◌, ◌≤◌, false, leb, [], refl, Bool, T, ◌&&◌, ◌*◌, ◌/◌, ◌%◌, ◌<◌, ◌⊎◌, inl, inr, ◌-◌, zero, suc, fold, ap, ◌∙◌, subst, ◌^◌, ◌↔◌, if◌then◌else◌, count_ones, add_comm, lit<, bit_and, sym, nat_lt, cond, ◌||◌, le_refl, min, eqb, ltb, ◌∷◌, Contains, suc-mul, lt_of_mul-lt-mul_right}
use Rattle.std.proofs.lemmas.Bool.{leb-true, leb-false, cases_lt, eqb-true, false≢true, and_parts, cases_eq}
use Rattle.std.proofs.lemmas.{Bool.Decides.nat_tests, List.FromFn.{length-range_with_len, get_or-range_with_len}}
use Rattle.std.proofs.lemmas.Nat.{div-add-mod', mul-le, mod-pow-add, ones_cat, mod_below, pow_pos, and_mask, one_shl, shr-shr, mul-add-lt, le-div}
use Rattle.std.proofs.lemmas.Nat.Bits.{ones_shr}
use lib.Count.{ones}

pub not_same : (m n : ℕ) → not (m == n) ≡ true → m ≢ n
not_same m n passed = λ same. grind arith

-- a version up to the next one is an earlier one or the next
pub by_version : {P : Type 0} (v n : ℕ) → v ≤ n + 1 → (v ≤ n → P) → (v ≡ n + 1 → P) → P
by_version {P} v n high old new = elim (leb v n) as (λ b. leb v n ≡ b → P) [
  | true ↦ λ t. old (leb-true v n t)
  | false ↦ λ f. new (omega (arith, leb-false v n f))
] refl

-- a greater version isn't up to a smaller one
pub lt-leb-false : (v n : ℕ) → v ≤ n → leb (n + 1) v ≡ false
lt-leb-false v n less = elim (leb (n + 1) v) as (λ b. leb (n + 1) v ≡ b → b ≡ false) [
  | true ↦ λ t. absurd (omega (arith, leb-true (n + 1) v t))
  | false ↦ λ _. refl
] refl

pub both : (a b : Bool) → T a → T b → a && b ≡ true
both true true p q = refl
both true false p q = absurd q
both false b p q = absurd p

-- a place before that of an item is in an earlier round, or in the same round at a lower rank
pub before_place : (n least rank p : ℕ) → rank < n → p < least * n + rank
    → (p / n < least) ⊎ ((p / n ≡ least) × (p % n < rank))
before_place n least rank p within below = by cases
  where
    cases : (p / n < least) ⊎ ((p / n ≡ least) ⊎ (least < p / n))
    cases = grind arith

    split : p / n * n + p % n ≡ p
    split = div-add-mod' p n

    by : (p / n < least) ⊎ ((p / n ≡ least) ⊎ (least < p / n)) → (p / n < least) ⊎ ((p / n ≡ least) × (p % n < rank))
    by (inl earlier) = inl earlier
    by (inr (inl same)) =
        let whole : least * n + p % n ≡ p = rw same at split in inr (same, omega (arith, whole))
    by (inr (inr later)) =
        let more : (least + 1) * n ≤ p / n * n = mul-le (least + 1) n (p / n) n (omega arith) (omega arith) in
        absurd (omega (arith, more, split))

-- a range rises
pub IsStrictlyIncreasing-range_with_len : (from len : ℕ) → IsStrictlyIncreasing (range_with_len from len)
IsStrictlyIncreasing-range_with_len from len k within =
    let next : k + 1 < len = omega (arith, length-range_with_len from len) in
    rw (get_or-range_with_len from len k 0 (omega arith), get_or-range_with_len from len (k + 1) 0 next) (omega arith)

-- a fold over one number more of a range
pub fold_range_more : {A : Type 0} (f : A → ℕ → A) (a : A) (from m j : ℕ) → from + m ≡ j
    → fold f a (range_with_len from (m + 1)) ≡ f (fold f a (range_with_len from m)) j
fold_range_more f a from zero j e = ap (f a) (omega (arith, e))
fold_range_more f a from (suc m) j e =
    ap (λ n. fold f a (range_with_len from n)) next ∙ fold_range_more f (f a from) (from + 1) m j (omega (arith, e))
  where
    next : suc m + 1 ≡ suc (m + 1)
    next = omega arith

-- what holds up to n and at the next number holds up to it
pub up_to_more : (P : ℕ → Type 0) (n : ℕ) → ((i : ℕ) → i ≤ n → P i) → P (n + 1) → (i : ℕ) → i ≤ n + 1 → P i
up_to_more P n before next i within = up_to_cases (cases_lt i (n + 1))
  where
    up_to_cases : (i < n + 1) ⊎ (n + 1 ≤ i) → P i
    up_to_cases (inl below) = before i (omega arith)
    up_to_cases (inr above) = let e : n + 1 ≡ i = omega arith in subst P e next

-- what holds at 0 holds up to 0
pub up_to_none : (P : ℕ → Type 0) → P 0 → (i : ℕ) → i ≤ 0 → P i
up_to_none P first i within = let e : 0 ≡ i = omega arith in subst P e first

-- the mask of a roster's members is such a run
pub ones_of : (members : ℕ) → 1 ≤ members → members ≤ 16 → 65535 / 2 ^ (16 - members) ≡ 2 ^ members - 1
ones_of members p q =
    let e : 16 - (16 - members) ≡ members = omega arith in
    let l : 16 - members ≤ 16 = omega arith in ones_shr 16 (16 - members) l ∙ ap (λ (x : ℕ). 2 ^ x - 1) e

pub last_or_below : (i n : ℕ) → i < suc n → (i ≡ n) ⊎ (i < n)
last_or_below i n l = grind arith

pub equal_test : (a b : ℕ) → ((a == b) ≡ true) ↔ (a ≡ b)
equal_test a b = (λ e. eqb-true a b e, λ e. grind (arith, nat_tests, e))

pub other_test : (a b : ℕ) → (not (a == b) ≡ true) ↔ (a ≢ b)
other_test a b = (λ e q. absurd (grind (arith, nat_tests, e, q)), λ d. grind (arith, nat_tests, d))

-- a bit more, 2 ^ n or 0, on top of a number below 2 ^ n
double : (n : ℕ) → 2 ^ suc n ≡ 2 ^ n + 2 ^ n
double n = omega arith

pub more_small : (m n : ℕ) (t : Bool) → m < 2 ^ n → m + (if t then 2 ^ n else 0) < 2 ^ suc n
more_small m n true small = omega (arith, double n)
more_small m n false small = omega (arith, double n)

-- a bit counts for itself
pub ones_bit : (b : ℕ) → b < 2 → count_ones b ≡ b
unfolding ones
ones_bit b l = by (two b l)
  where
    two : (n : ℕ) → n < 2 → (n ≡ 0) ⊎ (n ≡ 1)
    two n h = grind arith

    by : (b ≡ 0) ⊎ (b ≡ 1) → count_ones b ≡ b
    by (inl e) = rw e refl
    by (inr e) = rw e refl

-- the low k + j bits are the low k and the j above them
pub ones_split : (m k j : ℕ) → count_ones (m % 2 ^ (k + j)) ≡ count_ones (m % 2 ^ k) + count_ones (m / 2 ^ k % 2 ^ j)
ones_split m k j = ap (λ (x : ℕ). count_ones (m % 2 ^ x)) (add_comm k j) ∙ ap count_ones (mod-pow-add m j k)
    ∙ ones_cat k (m / 2 ^ k % 2 ^ j) (m % 2 ^ k) (mod_below m (2 ^ k) (pow_pos k))
    ∙ add_comm (count_ones (m / 2 ^ k % 2 ^ j)) (count_ones (m % 2 ^ k))

-- bit k counts for itself
pub ones_one : (m k : ℕ) → count_ones (m / 2 ^ k % 2) ≡ m / 2 ^ k % 2
ones_one m k = ones_bit (m / 2 ^ k % 2) (mod_below (m / 2 ^ k) 2 (lit< tt))

-- the set bits of the low half, as the code counts them
pub ones_low : (m from half : ℕ) → half < 16 → count_ones (bit_and (m / 2 ^ from) (1 * 2 ^ half % 2 ^ 16 - 1))
    ≡ count_ones (m / 2 ^ from % 2 ^ half)
ones_low m from half l = rw (one_shl half 16 l) (ap count_ones (and_mask (m / 2 ^ from) half))

-- the set bits of a span are those of its halves
pub ones_halves : (m from half : ℕ) → count_ones (m / 2 ^ from % 2 ^ (2 * half))
    ≡ count_ones (m / 2 ^ from % 2 ^ half) + count_ones (m / 2 ^ (from + half) % 2 ^ half)
ones_halves m from half =
    let e : 2 * half ≡ half + half = omega arith in
    rw e (ones_split (m / 2 ^ from) half half
    ∙ ap (λ (x : ℕ). count_ones (m / 2 ^ from % 2 ^ half) + count_ones (x % 2 ^ half)) (shr-shr m from half))

pub below_or_last : (i n : ℕ) → i < suc n → (i < n) ⊎ (i ≡ n)
below_or_last i n h = grind arith

pub not_feed : (byte : ℕ) → not (byte == 10) ≡ true → (byte == 10) ≡ false
not_feed byte h = by (byte == 10) refl
  where
    by : (b : Bool) → (byte == 10) ≡ b → (byte == 10) ≡ false
    by true is = absurd (false≢true (sym (ap not is) ∙ h))
    by false is = is

pub not_comma : (b : ℕ) → 45 ≤ b → (b == 44) ≡ false
not_comma b above = grind (arith, above)

-- and hexadecimal digits
pub glyph_high : (d : ℕ) → 33 ≤ digit_glyph false d
glyph_high d = by (cases_lt d 10)
  where
    by : (d < 10) ⊎ (10 ≤ d) → 33 ≤ digit_glyph false d
    by (inl less) = let e : nat_lt d 10 ≡ true = grind (arith, less) in rw e (omega arith)
    by (inr more) = let e : nat_lt d 10 ≡ false = grind (arith, more) in rw e (omega arith)

first_or_later : (a i : ℕ) → a ≤ i → (i ≡ a) ⊎ (a + 1 ≤ i)
first_or_later a i from = grind arith

pub tests_all : (q : ℕ → Bool) (n a : ℕ) → list_all q (range_with_len a n) ≡ true → (i : ℕ)
    → a ≤ i → i < a + n → q i ≡ true
tests_all q zero a all i from to = absurd (omega arith)
tests_all q (suc n) a all i from to =
    let both = and_parts (q a) _ all in
    elim (first_or_later a i from) [
      | inl first ↦ ap q first ∙ both.0
      | inr later ↦ tests_all q n (a + 1) both.1 i later (omega arith)
    ]

-- the column is in the slot, or it isn't
abbrev pub InOrOut : ℕ → ℕ → ℕ → Type 0
InOrOut first n c = ((part : ℕ) × (part < n) × (first + part ≡ c)) ⊎ ((c < first) ⊎ (first + n ≤ c))

pub in_or_out : (first n c : ℕ) → InOrOut first n c
in_or_out first n c = elim (cases_lt c first) [
  | inl before ↦ inr (inl before)
  | inr from ↦ elim (cases_lt c (first + n))
      [ inl within ↦ inl (c - first, omega arith, omega arith) | inr behind ↦ inr (inr behind) ]
]

-- a number of four bytes
abbrev pub four : ℕ → ℕ → ℕ → ℕ → ℕ
four a b c d = a * 16777216 + b * 65536 + c * 256 + d

pub byte_0 : (a b c d : ℕ) → a < 256 → b < 256 → c < 256 → d < 256 → four a b c d / 16777216 % 256 ≡ a
byte_0 a b c d p q r s = omega arith

pub byte_1 : (a b c d : ℕ) → a < 256 → b < 256 → c < 256 → d < 256 → four a b c d / 65536 % 256 ≡ b
byte_1 a b c d p q r s = omega arith

pub byte_2 : (a b c d : ℕ) → a < 256 → b < 256 → c < 256 → d < 256 → four a b c d / 256 % 256 ≡ c
byte_2 a b c d p q r s = omega arith

pub byte_3 : (a b c d : ℕ) → a < 256 → b < 256 → c < 256 → d < 256 → four a b c d % 256 ≡ d
byte_3 a b c d p q r s = omega arith

pub merged : (one some : Bool) (x v y : ℕ) → (one ≡ true → v ≡ x)
    → cond some x (cond one v y) ≡ cond (one || some) x y
merged true true x v y same = refl
merged true false x v y same = same refl
merged false true x v y same = refl
merged false false x v y same = refl

-- a test of a number with itself, and with another one
pub same_number : (n : ℕ) → (n == n) ≡ true
same_number n = grind arith

-- a test of two numbers that differ
pub other_number : (n m : ℕ) → n ≢ m → (n == m) ≡ false
other_number n m other = grind (arith, other)

-- a product of small numbers is small
pub product_within : (a n : ℕ) → a ≤ 4096 → n ≤ 16 → a * n ≤ 65536
product_within a n l h = mul-le-mul l h

-- the whole roster has somebody, where there is one
pub above_whole : (n : ℕ) → 1 ≤ n → 0 < 2 ^ n - 1
above_whole zero l = absurd (omega (arith, l))
above_whole (suc n) l = omega (arith, pow_pos n)

-- where there is room for the entries, it turns on the messages
pub fits_by_own : (a b m n : ℕ) → a < m → nat_le b n ≡ (nat_lt a m && nat_lt b (n + 1))
fits_by_own a b m n l = grind (arith, l)

pub below_product : (p n q : ℕ) → 0 < n → p / n < q → p < n * q
below_product p n q some h =
    let parts = div-add-mod' p n in
    let rest = mod_below p n some in
    let whole : n * (p / n + 1) ≤ n * q = mul-le n (p / n + 1) n q (le_refl n) (omega arith) in
    omega (arith, parts, rest, whole)

pub lesser_is : (now p q : ℕ) → now ≤ min p q → (min p q == now) ≡ ((p == now) || (q == now))
lesser_is now p q h = by (p == now) (q == now) refl refl
  where
    by : (x y : Bool) → (p == now) ≡ x → (q == now) ≡ y → (min p q == now) ≡ (x || y)
    by true y e f = grind (arith, nat_tests, e, h)
    by false true e f = grind (arith, nat_tests, f, h)
    by false false e f = grind (arith, nat_tests, e, f, h)

-- a test that fails at a number more, where it fails below it
pub none_more : (test : ℕ → Bool) (from n : ℕ) → ((x : ℕ) → from ≤ x → x < n → test x ≡ false) → test n ≡ false
    → (x : ℕ) → from ≤ x → x < n + 1 → test x ≡ false
none_more test from n below at x above within = by (x == n) refl
  where
    by : (b : Bool) → (x == n) ≡ b → test x ≡ false
    by true e = ap test (grind (arith, nat_tests)) ∙ at
    by false e = below x above (grind (arith, nat_tests, within))

-- so the row isn't suspected
pub untrue : (a b : Bool) → (not a && b) ≡ true → a ≡ false
untrue true b e = absurd (cc)
untrue false b e = refl

-- a count that is none, or isn't
pub count_none : (n : ℕ) → (n == 0) ≡ true → n ≡ 0
count_none n e = grind (arith, e)

pub count_some : (n : ℕ) → (n == 0) ≡ false → 0 < n
count_some n e = grind (arith, e)

pub below_some : (x n : ℕ) → 0 < n → x % n < n
below_some x n some = omega (arith, some)

pub not_less : (a b : ℕ) → (a < b → ⊥) → b ≤ a
not_less a b impossible = elim (leb b a) as (λ x. leb b a ≡ x → b ≤ a) [
  | true ↦ λ t. leb-true b a t
  | false ↦ λ f. absurd (impossible (omega (arith, leb-false b a f)))
] refl

-- a hand is cut at a place, and a new seat has what stands from there on
unfoldable pub cut_back : ℕ → ℕ → ℕ → ℕ → ℕ → ℕ × ℕ
cut_back id at n s a = cond (eqb s id) (cond (ltb a at) (id, a) (n, a - at)) (s, a)

-- a number up to 4 that is none of 2, 3 and 4
pub below_two : (n : ℕ) → n ≤ 4 → n ≢ 2 → n ≢ 3 → n ≢ 4 → n < 2
below_two n least two three four = elim (cases_lt n 2) [
  | inl below ↦ below
  | inr past ↦ elim (cases_lt n 3) [
    | inl here ↦ absurd (two (omega (arith, past, here)))
    | inr more ↦ elim (cases_lt n 4) [
      | inl here ↦ absurd (three (omega (arith, more, here)))
      | inr most ↦ absurd (four (omega (arith, most, least)))
    ]
  ]
]

pub moved : {X : Type 0} (f : ℕ → X) (a b : ℕ) → a ≡ b → f a ≡ f b
moved f a b is = ap f is

pub one_more_most : (b : Bool) (a c n : ℕ) → a ≡ c + cond b 1 0 → c ≤ n → a ≤ suc n
one_more_most true a c n e most = omega (arith, e, most)
one_more_most false a c n e most = omega (arith, e, most)

pub wider : (b : Bool) (a c q : ℕ) → a ≡ c + cond b 1 0 → q < c → q < a
wider true a c q e less = omega (arith, e, less)
wider false a c q e less = omega (arith, e, less)

-- one more below r + 1 is one below r, or r itself
pub one_below : (k r : ℕ) → cond (ltb k r) 1 0 + cond (eqb r k) 1 0 ≡ cond (ltb k (suc r)) 1 0
one_below k r = grind arith

-- below the last of all, or the last of all
pub last_one : (k shards : ℕ) → k < shards → cond (ltb k (shards - 1)) 1 0 + cond (eqb (shards - 1) k) 1 0 ≡ 1
last_one k shards small = grind (arith, small)

pub none_below : (k r : ℕ) → r ≤ k → 0 + cond (ltb k r) 1 0 ≡ 0
none_below k r least = grind (arith, least)

-- one of the statuses 0, 3 and 13
abbrev pub IsEnd : ℕ → Type 0
IsEnd n = (n ≡ 0) ⊎ ((n ≡ 3) ⊎ (n ≡ 13))

-- the status comes before all others
abbrev pub IsEarly : ℕ → Type 0
IsEarly status = (status ≡ 10) ⊎ (status ≡ 5)

-- the status of a last line behind which nothing was run, but for the usage
abbrev pub IsUnrun : ℕ → Type 0
IsUnrun status = Contains (0 ∷ 3 ∷ 12 ∷ 13 ∷ []) status

-- the status is not an early one
pub late : (due status : ℕ) → status ≡ due → (due ≡ 10 → ⊥) → (due ≡ 5 → ⊥) → IsEarly status → ⊥
late due status is ten five (inl e) = ten (sym is ∙ e)
late due status is ten five (inr e) = five (sym is ∙ e)

-- a status behind which nothing was run is no other
unrun_status : (status : ℕ) → IsUnrun status → ((status ≡ 0) ⊎ (status ≡ 3)) ⊎ (12 ≤ status)
unrun_status status (zero, below, is) = inl (inl (sym is))
unrun_status status (suc zero, below, is) = inl (inr (sym is))
unrun_status status (suc (suc zero), below, is) = inr (omega (arith, is))
unrun_status status (suc (suc (suc zero)), below, is) = inr (omega (arith, is))
unrun_status status (suc (suc (suc (suc i))), below, is) = absurd (omega (arith, below))

-- so it is none of those that tell of words, of a source and of a run
pub not_unrun : (status : ℕ) → IsUnrun status → (status ≡ 0 → ⊥) → (status ≡ 3 → ⊥) → status < 12 → ⊥
not_unrun status is zeroth third low = elim (unrun_status status is) [
  | inl few ↦ elim few [ inl e ↦ zeroth e | inr e ↦ third e ]
  | inr high ↦ omega (arith, low, high)
]

-- one of the statuses 0, 8 and 9
abbrev pub IsRunEnd : ℕ → Type 0
IsRunEnd n = (n ≡ 0) ⊎ ((n ≡ 8) ⊎ (n ≡ 9))

pub apart : (known n : ℕ) → known ≢ 0 → known ≢ 8 → known ≢ 9 → n ≡ known → IsRunEnd n → ⊥
apart known n zeroth eighth ninth same (inl is) = zeroth (sym same ∙ is)
apart known n zeroth eighth ninth same (inr (inl is)) = eighth (sym same ∙ is)
apart known n zeroth eighth ninth same (inr (inr is)) = ninth (sym same ∙ is)

-- the status is not one that comes before all others
pub not_early : (status : ℕ) → IsRunEnd status → (status ≡ 10) ⊎ (status ≡ 5) → ⊥
not_early status end (inl is) =
    apart 10 status (λ e. omega (arith, e)) (λ e. omega (arith, e)) (λ e. omega (arith, e)) is end
not_early status end (inr is) =
    apart 5 status (λ e. omega (arith, e)) (λ e. omega (arith, e)) (λ e. omega (arith, e)) is end

-- whether a view of the age has named it, and whether it is in the last one
unfoldable pub phase : Bool → Bool → ℕ
phase false now = 0
phase true true = 1
phase true false = 2

-- how far those with a number below n have come together
unfoldable pub total : (ℕ → Bool) → (ℕ → Bool) → ℕ → ℕ
total named now zero = 0
total named now (suc n) = total named now n + phase (named n) (now n)

-- the status of each call is one of these
abbrev pub IsKnown : ℕ → Type 0
IsKnown status = Contains (0 ∷ 2 ∷ 3 ∷ 4 ∷ 5 ∷ 8 ∷ 9 ∷ 10 ∷ []) status

pub come_on : (a n b m c l : ℕ) → (a < b) ⊎ ((a ≡ b) × (n ≤ m)) → (b < c)
    ⊎ ((b ≡ c) × (m < l)) → (a < c) ⊎ ((a ≡ c) × (n ≤ l))
come_on a n b m c l h k = grind arith

pub come_later : (a n b m c l : ℕ) → (a < b) ⊎ ((a ≡ b) × (n ≤ m)) → (b < c)
    ⊎ ((b ≡ c) × (m < l)) → (a < c) ⊎ ((a ≡ c) × (n < l))
come_later a n b m c l h k = grind arith

-- items of one slot less than a window apart are not the later one
pub same_slot : (n k q : ℕ) → 0 < n → q % n ≡ k % n → q < k + n → q ≤ k
same_slot n k q some e l = by (cases_lt (k / n) (q / n))
  where
    by : (k / n < q / n) ⊎ (q / n ≤ k / n) → q ≤ k
    by (inl over) =
        let round : n * suc (k / n) ≤ n * (q / n) = mul-le-mul_left n over in
        let next : n * suc (k / n) ≡ n * (k / n) + n = mul-suc n (k / n) in
        absurd (omega (arith, round, next, div-add-mod q n, div-add-mod k n, e, l))
    by (inr earlier) =
        let round : n * (q / n) ≤ n * (k / n) = mul-le-mul_left n earlier in
        omega (arith, round, div-add-mod q n, div-add-mod k n, e)

-- a column of the new item's words, or one that is as before
abbrev pub InItem : ℕ → ℕ → ℕ → Type 0
InItem from n c = ((part : ℕ) × (part < n) × (from + part ≡ c)) ⊎ ((c < from) ⊎ (from + n ≤ c))

pub in_item : (from n c : ℕ) → InItem from n c
in_item from n c = by (cases_lt c from) (cases_lt c (from + n))
  where
    by : (c < from) ⊎ (from ≤ c) → (c < from + n) ⊎ (from + n ≤ c) → InItem from n c
    by (inl l) b = inr (inl l)
    by (inr l) (inr b) = inr (inr b)
    by (inr l) (inl b) = inl (c - from, omega arith, omega arith)

pub itself_or : (j : ℕ) (b : Bool) → (j == j || b) ≡ true
itself_or j b = grind arith

-- who is one more or was before, and is not the one more, was before
pub one_before : (n j : ℕ) (b : Bool) → n ≢ j → (n == j || b) ≡ true → b ≡ true
one_before n j b d e = grind (arith, d, e)

pub before_or_behind : (v u : ℕ) → (v < u) ⊎ ((v ≡ u) ⊎ (u < v))
before_or_behind v u = grind arith

-- a cell is inside the table or not
pub cell_inside : (b n k v j i c : ℕ)
    → (((v < b) × (j < n) × (i < n) × (c < k)) × (((nat_lt v b && nat_lt j n) && (nat_lt i n && nat_lt c k)) ≡ true))
    ⊎ (((nat_lt v b && nat_lt j n) && (nat_lt i n && nat_lt c k)) ≡ false)
cell_inside b n k v j i c = by ((nat_lt v b && nat_lt j n) && (nat_lt i n && nat_lt c k)) refl
  where
    by : (t : Bool) → ((nat_lt v b && nat_lt j n) && (nat_lt i n && nat_lt c k)) ≡ t
        → (((v < b) × (j < n) × (i < n) × (c < k))
        × (((nat_lt v b && nat_lt j n) && (nat_lt i n && nat_lt c k)) ≡ true))
        ⊎ (((nat_lt v b && nat_lt j n) && (nat_lt i n && nat_lt c k)) ≡ false)
    by true e = inl (
      (
        grind (arith, nat_tests, e),
        grind (arith, nat_tests, e),
        grind (arith, nat_tests, e),
        grind (arith, nat_tests, e),
      ),
      e,
    )
    by false e = inr e

-- a test that each number below n passes
unfoldable pub all_below : ℕ → (ℕ → Bool) → Bool
all_below zero test = true
all_below (suc n) test = test n && all_below n test

-- a test that all numbers below n pass is passed by each of them
pub each_below : (n i : ℕ) (test : ℕ → Bool) → all_below n test ≡ true → i < n → test i ≡ true
unfolding all_below
each_below zero i test e l = absurd (omega arith)
each_below (suc n) i test e l = elim (cases_eq i n) [
  | inl same ↦ rw same (and_parts (test n) (all_below n test) e).0
  | inr other ↦ each_below n i test (and_parts (test n) (all_below n test) e).1 (omega arith)
]

pub no_row : (row c : ℕ) → row < 1 → row * c ≡ 0
no_row zero c l = omega arith
no_row (suc row) c l = absurd (omega (arith, l))

-- a place of a turn is one of its part's
pub within : (rows columns row column : ℕ) → row < rows → column < columns → row * columns + column < rows * columns
within rows columns row column a b = omega (arith, mul-add-lt row columns column rows a b)

pub minus_le : (a b c : ℕ) → b ≤ c → a - c ≤ a - b
minus_le a b c h = omega arith

pub minus_less : (most a b : ℕ) → a < b → b ≤ most → most - b < most - a
minus_less most a b h g = omega arith

pub come_in : (i : ℕ) (p a b : Bool) → i < 16 → p ≡ true → (if b then not a else a) ≡ true
    → (nat_lt i 16 && (p && (if b then not a else a))) ≡ true
come_in i p a b small here e = rw (e, here) (grind (arith, small))

-- one for a member
abbrev pub one : Bool → ℕ
one b = if b then 1 else 0

pub first_or : (v : ℕ) → (v ≡ 0) ⊎ (0 < v)
first_or zero = inl refl
first_or (suc v) = inr (omega arith)

pub spent_at : (limit turns : ℕ) → (turns == limit) ≡ true → turns ≡ limit
spent_at limit turns e = grind (arith, nat_tests, e)

pub same_view : (v x y : ℕ) → (if v == v then x else y) ≡ x
same_view v x y = grind arith

-- a word that comes is one that arrives
pub greater : (a b : ℕ) → (max a b ≡ a) ⊎ (max a b ≡ b)
greater a b = by (cases_lt a b)
  where
    by : (a < b) ⊎ (b ≤ a) → (max a b ≡ a) ⊎ (max a b ≡ b)
    by (inl l) = inr (grind (arith, l))
    by (inr l) = inl (grind (arith, l))

pub no_less : (a b : ℕ) → a ≤ max a b
no_less a b = grind arith

pub is_below : (a b : ℕ) → a < b → nat_lt a b ≡ true
is_below a b l = grind (arith, l)

-- a count below the limit hasn't reached it
pub soon : (count more limit : ℕ) → count + more < limit → not (nat_lt count limit) ≡ false
soon count more limit l = grind (arith, l)

-- who is beyond a roster is not of a mask of it
pub not_in : {n i : ℕ} (b : Bool) → (b ≡ true → i < n) → n ≤ i → b ≡ false
not_in true inside beyond = absurd (omega (arith, inside refl, beyond))
not_in false inside beyond = refl

pub both_true : (a b c : Bool) → (a && (b && c)) ≡ true → (b ≡ true) × (c ≡ true)
both_true true true true e = (refl, refl)
both_true true true false e = absurd (cc)
both_true true false c e = absurd (cc)
both_true false b c e = absurd (cc)

pub same_age : (a b : ℕ) → a ≡ b → (a == b) ≡ true
same_age a b e = grind (arith, e)

pub below-last : (v : ℕ) → v + 1 < 32 → nat_lt v 255 ≡ true
below-last v few = grind (arith, few)

-- a row and a column come before others
abbrev pub IsLess : ℕ → ℕ → ℕ → ℕ → Type 0
IsLess j d i c = (j < i) ⊎ ((j ≡ i) × (d < c))

-- what is not after a column of a row is before it, or there
pub split_column : (j d i c : ℕ) → (j < i) ⊎ ((j ≡ i) × (d < c + 1)) → IsLess j d i c ⊎ ((j ≡ i) × (d ≡ c))
split_column j d i c before = grind (arith, before)

pub unequal : (c d : ℕ) → d ≡ c → (c == d) ≡ false → ⊥
unequal c d same e = absurd (grind (arith, e, same))

-- behind the last column of a row come those of the next one, if there is one
abbrev pub one_of : Bool → ℕ → ℕ
one_of b n = if b then n else 0

-- a part with one place has none before it
pub one_place : (j d i c : ℕ) → i < 1 → c < 1 → IsLess j d i c → ⊥
one_place j d i c row column less = grind (arith, row, column, less)

pub one_column : (j d i c : ℕ) → c < 1 → IsLess j d i c → j < i
one_column j d i c column less = grind (arith, column, less)

pub not_back : (a b : ℕ) (t : Bool) → (t ≡ true → a < b - 1) → (t && (a + 1 == b)) ≡ false
not_back a b true before = grind (arith, nat_tests, before refl)
not_back a b false before = refl

-- an earlier place has no greater number
pub round_le : (n a b s t : ℕ) → s < n → a * n + t ≤ b * n + s → a ≤ b
round_le n a b s t l h = omega (arith, lt_of_mul-lt-mul_right n {m = a} {n = suc b} up)
  where
    up : a * n < suc b * n
    up = omega (arith, h, l, suc-mul b n)

-- a place of the same member behind it has a greater one
pub round_lt : (n a b s p : ℕ) → a * n + s < p → p ≤ b * n + s → a < b
round_lt n a b s p h l = lt_of_mul-lt-mul_right n {m = a} {n = b} (omega (arith, h, l))

-- so many columns further on is so many times as far
pub place_onward : (c n m i : ℕ) → c * m + i + n * m ≡ (c + n) * m + i
place_onward c n m i = let each = add-mul c n m in omega (arith, each)

pub falls_no : (k i by : ℕ) → 0 < by → k ≤ i → k / by ≤ i / by
falls_no k i by some less = le-div (k / by) i by some (omega (arith, div-add-mod' k by, less))
