-- Two majorities of a mask share a member.
use Rattle.std.proofs.Common.{◌≡◌, ℕ, zero, suc, ◌+◌, ◌<◌, ◌≤◌, true, false, Bool, refl, ◌⊎◌, inl, inr, arith, length, if◌then◌else◌}
use Rattle.dr_history.{specs.Members.{has, members_below, members_of}, proofs.Masks.none}
use Rattle.dr_history.proofs.Ranks.{length-members_below_suc}
use Rattle.dr_words.specs.Masks.{IsPartOf, IsMajorityOf}

-- below a number, two parts of a mask share a member or have together no more members than the mask
meet_below : (all one other n : ℕ) → IsPartOf one all → IsPartOf other all
    → ((i : ℕ) × (i < n) × (has one i ≡ true) × (has other i ≡ true))
    ⊎ (length (members_below one n) + length (members_below other n) ≤ length (members_below all n))
meet_below all one other zero p q = inr (none all one other)
meet_below all one other (suc n) p q = by (has one n) (has other n) refl refl (length-members_below_suc one n)
    (length-members_below_suc other n) (length-members_below_suc all n) (meet_below all one other n p q)
  where
    by : (a b : Bool) → has one n ≡ a → has other n ≡ b
        → length (members_below one (suc n)) ≡ length (members_below one n) + (if has one n then 1 else 0)
        → length (members_below other (suc n)) ≡ length (members_below other n) + (if has other n then 1 else 0)
        → length (members_below all (suc n)) ≡ length (members_below all n) + (if has all n then 1 else 0)
        → ((i : ℕ) × (i < n) × (has one i ≡ true) × (has other i ≡ true))
        ⊎ (length (members_below one n) + length (members_below other n) ≤ length (members_below all n))
        → ((i : ℕ) × (i < suc n) × (has one i ≡ true) × (has other i ≡ true))
        ⊎ (length (members_below one (suc n)) + length (members_below other (suc n))
        ≤ length (members_below all (suc n)))
    by a b e f x y z (inl t) = inl (t.0, grind (arith, t.1), t.2, t.3)
    by true true e f x y z (inr l) = inl (n, omega arith, e, f)
    by true false e f x y z (inr l) = let g = p n e in inr (grind (arith, g))
    by false true e f x y z (inr l) = let g = q n f in inr (grind (arith, g))
    by false false e f x y z (inr l) = inr (grind arith)

-- two parts of a mask that each have more than half of its members share one
pub majorities_meet_lem : (all one other : ℕ) → IsPartOf one all → IsPartOf other all → IsMajorityOf one all
    → IsMajorityOf other all → (n : ℕ) × (n < 16) × (has all n ≡ true) × (has one n ≡ true) × (has other n ≡ true)
unfolding members_of
majorities_meet_lem all one other p q most more = by (meet_below all one other 16 p q)
  where
    by : ((i : ℕ) × (i < 16) × (has one i ≡ true) × (has other i ≡ true))
        ⊎ (length (members_below one 16) + length (members_below other 16) ≤ length (members_below all 16))
        → (n : ℕ) × (n < 16) × (has all n ≡ true) × (has one n ≡ true) × (has other n ≡ true)
    by (inl t) = (t.0, t.1, p t.0 t.2, t.2, t.3)
    by (inr l) = absurd (omega arith)
