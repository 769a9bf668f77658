-- Counts with one item more of a sender at one member.
use Rattle.std.proofs.{Common.{arith, inl, inr, ℕ, ◌+◌, ◌≡◌, ◌≢◌, ◌≤◌, ◌⊎◌}, lemmas.Bool.cases_eq}
use Rattle.dr_machine.specs.Writes.{at, at₂}
use Rattle.dr_faithful.specs.Faithful.{Numbers}

-- the counts with one more
abbrev pub more : Numbers → ℕ → ℕ → ℕ → Numbers
more count m v s = at₂ count m v (at (count m v) s (count m v s + 1))

-- a count is the one that has risen, or as before
abbrev pub IsMore : Numbers → ℕ → ℕ → ℕ → ℕ → ℕ → ℕ → Type 0
IsMore count m v s a u b = ((a ≡ m) × (u ≡ v) × (b ≡ s)
    × (more count m v s a u b ≡ count m v s + 1)) ⊎ (more count m v s a u b ≡ count a u b)

-- each count is the one that has risen, or as before
pub more_or_same : (count : Numbers) (m v s a u b : ℕ) → IsMore count m v s a u b
more_or_same count m v s a u b = by (cases_eq a m) (cases_eq u v) (cases_eq b s)
  where
    by : (a ≡ m) ⊎ (a ≢ m) → (u ≡ v) ⊎ (u ≢ v) → (b ≡ s) ⊎ (b ≢ s) → IsMore count m v s a u b
    by (inl e) (inl f) (inl h) = inl (e, f, h, grind arith)
    by (inl e) (inl f) (inr d) = inr (grind arith)
    by (inl e) (inr d) h = inr (grind arith)
    by (inr d) f h = inr (grind arith)

-- no count has fallen
pub more_le : (count : Numbers) (m v s a u b : ℕ) → count a u b ≤ more count m v s a u b
more_le count m v s a u b = grind arith

-- the count itself has risen by one
pub new_count : (count : Numbers) (m v s : ℕ) → more count m v s m v s ≡ count m v s + 1
new_count count m v s = grind arith

-- a count of own items is as before where another one's has risen
pub own_same : (count : Numbers) (m v s a u : ℕ) → s ≢ m → more count m v s a u a ≡ count a u a
own_same count m v s a u d = grind arith
