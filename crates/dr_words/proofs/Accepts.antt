-- The accept words of a row: where they stand, and which parts they pack.
use Rattle.std.proofs.Common.{◌≡◌, ◌≢◌, ℕ, ◌-◌, ◌^◌, ◌<◌, ◌≤◌, ◌⊎◌, inl, inr, true, slice_index, arith}
use Rattle.std.proofs.{Math.Nat.pow-le-pow_right, lemmas.Bool.{cases_eq, Decides.nat_tests}}
use Rattle.dr_entry.{specs.declared.record.Value.Value, proofs.Records.FitsWords}
use Rattle.dr_history.specs.Members.{has}
use Rattle.dr_words.specs.Accepts.{AllPromise, AllTag, Shown, part_of}
use Rattle.dr_words.specs.Columns.{head_column, leavers_column, recv_column, trim_column}
use Rattle.dr_words.specs.{Packing.{accept_promise, accept_tag, accept_value, accept_word}, Rewrites.is_accept_of}

-- ---- columns

-- they stand behind the recv words, and before the ring
pub accept_within : (n members c : ℕ) → is_accept_of n members c ≡ true → (recv_column n ≤ c) × (c < head_column n 0)
accept_within n members c is = (grind (arith, nat_tests, is), grind (arith, nat_tests, is))

-- the leavers' word is one of them, and so are the trims of members
pub leavers_accept : (n members : ℕ) → is_accept_of n members (leavers_column n) ≡ true
leavers_accept n members = grind arith

pub trim_accept : (n members s : ℕ) → s < n → has members s ≡ true → is_accept_of n members (trim_column n s) ≡ true
trim_accept n members s l h =
    let there : trim_column n s - trim_column n 0 ≡ s = omega arith in grind (arith, l, h, there)

-- there are no others
accept_cases : (n members c : ℕ) → is_accept_of n members c ≡ true → (c ≡ leavers_column n)
    ⊎ ((s : ℕ) × (has members s ≡ true) × (c ≡ trim_column n s))
accept_cases n members c a = by (cases_eq c (leavers_column n))
  where
    by : (c ≡ leavers_column n) ⊎ (c ≢ leavers_column n) → (c ≡ leavers_column n)
        ⊎ ((s : ℕ) × (has members s ≡ true) × (c ≡ trim_column n s))
    by (inl e) = inl e
    by (inr d) = inr (c - trim_column n 0, grind (arith, a, d), grind (arith, a, d))

-- one promise, and one tag, in all accept words
pub all_promised : (n : ℕ) (rows : Shown) (members i p : ℕ) → AllPromise n rows members i p → (c : ℕ)
    → is_accept_of n members c ≡ true → accept_promise (rows i c) ≡ p
all_promised n rows members i p all c a = by (accept_cases n members c a)
  where
    by : (c ≡ leavers_column n) ⊎ ((s : ℕ) × (has members s ≡ true) × (c ≡ trim_column n s))
        → accept_promise (rows i c) ≡ p
    by (inl e) = rw e all.leavers
    by (inr t) = rw t.2 (all.trims t.0 t.1)

pub all_tagged : (n : ℕ) (rows : Shown) (members i p : ℕ) → AllTag n rows members i p → (c : ℕ)
    → is_accept_of n members c ≡ true → accept_tag (rows i c) ≡ p
all_tagged n rows members i p all c a = by (accept_cases n members c a)
  where
    by : (c ≡ leavers_column n) ⊎ ((s : ℕ) × (has members s ≡ true) × (c ≡ trim_column n s))
        → accept_tag (rows i c) ≡ p
    by (inl e) = rw e all.leavers
    by (inr t) = rw t.2 (all.trims t.0 t.1)

-- ---- the parts of an accept word

-- those that it is made of, where they fit
pub packed_promise : (p t v : ℕ) → t < 2 ^ 8 → v < 2 ^ 48 → accept_promise (accept_word p t v) ≡ p
packed_promise p t v small low = omega arith

pub packed_tag : (p t v : ℕ) → t < 2 ^ 8 → v < 2 ^ 48 → accept_tag (accept_word p t v) ≡ t
packed_tag p t v small low = omega arith

pub packed_value : (p t v : ℕ) → t < 2 ^ 8 → v < 2 ^ 48 → accept_value (accept_word p t v) ≡ v
packed_value p t v small low = omega arith

-- as those of a word do
pub tag_small : (word : ℕ) → accept_tag word < 2 ^ 8
tag_small word = omega arith

pub value_small : (word : ℕ) → accept_value word < 2 ^ 48
value_small word = omega arith

-- the part of a value that stands in a column
pub part_leavers : (n : ℕ) (v : Value) (c : ℕ) → c ≡ leavers_column n → part_of n v c ≡ v.leavers
part_leavers n v c e = grind (arith, e)

pub part_trim : (n : ℕ) (v : Value) (s c : ℕ) → c ≡ trim_column n s → part_of n v c ≡ slice_index v.trim s
part_trim n v s c e =
    let there : c - trim_column n 0 ≡ s = omega (arith, e) in
    let other : c ≢ leavers_column n = λ q. absurd (omega (arith, e, q)) in grind (arith, there, other)

-- then each part of the value fits
pub part_small : (n tag c : ℕ) (v : Value) → FitsWords n tag v → part_of n v c < 2 ^ 48
part_small n tag c v fits = by (cases_eq c (leavers_column n))
  where
    few : 2 ^ n ≤ 2 ^ 16
    few = pow-le-pow_right (omega arith) fits.few

    by : (c ≡ leavers_column n) ⊎ (c ≢ leavers_column n) → part_of n v c < 2 ^ 48
    by (inl e) = grind (arith, fits.leavers, few)
    by (inr d) = grind (arith, fits.trims (c - trim_column n 0))
