-- The members of masks that bit operations make.
use Rattle.std.{specs.Int.bit_at, proofs.lemmas.Bool.{cases_lt, cases_eq}}
use Rattle.std.proofs.Common.{◌≡◌, ℕ, ◌-◌, false, arith, ◌^◌, ◌<◌, ◌≤◌, nat_lt, ◌⊎◌, inl, inr, ◌≢◌, ◌*◌, ◌%◌, ◌==◌, ◌||◌, w16, bit_or, not, Bool, refl, if◌then◌else◌, bit_xor, ◌&&◌, bit_and}
use Rattle.std.proofs.lemmas.Nat.Bits.{bit_at-zero, bit_at_ones, bit_at_ones_above, bit_at_set_same, bit_at_set_other, bit_at-lt, bit_at_xor, bit_at_and, bit_at_not, bit_at_above}
use Rattle.dr_history.specs.Members.{has}

-- nobody is in the mask 0
pub has_zero : (n : ℕ) → has 0 n ≡ false
has_zero n = grind (arith, bit_at-zero n)

-- a run of ones holds the members below its length
pub has_ones : (k n : ℕ) → has (2 ^ k - 1) n ≡ nat_lt n k
has_ones k n = by (cases_lt n k)
  where
    by : (n < k) ⊎ (k ≤ n) → has (2 ^ k - 1) n ≡ nat_lt n k
    by (inl l) = grind (arith, bit_at_ones k n l)
    by (inr l) = grind (arith, bit_at_ones_above k n l)

-- a bit set adds its member alone
pub has_with : (m k : ℕ) → k < 16 → (i : ℕ) → has (bit_or m (1 * 2 ^ k % 2 ^ 16)) i ≡ (i == k || has m i)
has_with m k l i = by (cases_eq i k)
  where
    by : (i ≡ k) ⊎ (i ≢ k) → has (bit_or m (1 * 2 ^ k % 2 ^ 16)) i ≡ (i == k || has m i)
    by (inl e) = grind (arith, bit_at_set_same w16 m k l)
    by (inr d) = grind (arith, bit_at_set_other w16 m k l i d)

-- the bits of another mask turned
pub has_xor : (m o i : ℕ) → has (bit_xor m o) i ≡ (if has o i then not (has m i) else has m i)
has_xor m o i = by (bit_at m i == 1) (bit_at o i == 1) refl refl
  where
    by : (a b : Bool) → (bit_at m i == 1) ≡ a → (bit_at o i == 1) ≡ b
        → has (bit_xor m o) i ≡ (if has o i then not (has m i) else has m i)
    by a b x y = grind (arith, bit_at_xor m o i, bit_at-lt m i, bit_at-lt o i)

-- the bits of another mask taken away
pub has_without : (m o : ℕ) → m < 2 ^ 16 → o < 2 ^ 16 → (i : ℕ)
    → has (bit_and m (65535 - o)) i ≡ (has m i && not (has o i))
has_without m o p q i = by (cases_lt i 16)
  where
    by : (i < 16) ⊎ (16 ≤ i) → has (bit_and m (65535 - o)) i ≡ (has m i && not (has o i))
    by (inl l) = grind (arith, bit_at_and m (65535 - o) i, bit_at_not w16 o i q l, bit_at-lt m i, bit_at-lt o i)
    by (inr l) = grind (arith, bit_at_and m (65535 - o) i, bit_at_above m 16 i p l)
