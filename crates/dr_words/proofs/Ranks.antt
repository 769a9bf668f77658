-- Ranks: how many members of a mask stand before one of them.
use Rattle.std.{specs.Int.{bit_at, trailing_zeros}, proofs.lemmas.{Bool.cases_lt, Nat.Bits.bit_at-trailing_zeros}}
use Rattle.std.proofs.Common.{◌≡◌, ℕ, ◌-◌, ◌^◌, ◌<◌, ◌≤◌, true, ◌⊎◌, inl, inr, arith, length, get_or, w16}
use Rattle.dr_history.{specs.Members.{has, members_of}, proofs.Ranks.each_member}
use Rattle.dr_words.specs.Masks.{IsInRoster, IsLeastOf}

-- ---- counts of bits

-- ---- members and their ranks

-- members of a roster are of its numbers
pub roster_members : (mask n : ℕ) → IsInRoster n mask → (j : ℕ) → j < length (members_of mask)
    → get_or (members_of mask) j 0 < n
roster_members mask n roster j l = roster _ (each_member mask j l)

-- the lowest bit that is set is the least member
pub least_member : (m : ℕ) → 0 < m → m < 2 ^ 16 → IsLeastOf m (trailing_zeros w16 m)
least_member m p l =
    let z = bit_at-trailing_zeros w16 m p l in
    record {
      number = z.0;
      member = grind (arith, z.1);
      least = λ i h. above i h (cases_lt i (trailing_zeros w16 m)) (z.2 i);
    }
  where
    above : (i : ℕ) → has m i ≡ true → (i < trailing_zeros w16 m) ⊎ (trailing_zeros w16 m ≤ i)
        → (i < trailing_zeros w16 m → bit_at m i ≡ 0) → trailing_zeros w16 m ≤ i
    above i h (inl b) none = absurd (grind (arith, none b))
    above i h (inr b) none = b

-- ---- the search for a rank by halves
