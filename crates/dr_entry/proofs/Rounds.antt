-- How many items a member has after so many rounds, and that a round more brings it on: over numbers alone.
use Rattle.std.proofs.Common.{◌≡◌, ◌≢◌, ℕ, arith, ◌+◌, ◌≤◌, ◌*◌, ◌<◌, ◌⊎◌, inl, inr, ◌-◌}
use Rattle.std.proofs.lemmas.Bool.{cases_lt, cases_eq}

-- of n members, with `left s` messages left to member s: what member m has after r rounds, where count gives
-- how many items it has of each
pub record HasCome (n : ℕ) (left : ℕ → ℕ) (r m : ℕ) (count : ℕ → ℕ) : Type 0 where
  -- it has put its own message k
  pub own : (k : ℕ) → k < left m → 3 * k + 1 ≤ r → k < count m
  -- it has put an item k, where somebody has a message k
  pub put : (s k : ℕ) → s < n → k < left s → 3 * k + 2 ≤ r → k < count m
  -- and it has item k of each member
  pub has : (s t k : ℕ) → s < n → t < n → k < left s → 3 * k + 3 ≤ r → k < count t

-- member m has room for its next item in its window: that is one of the first, or each other member has
-- received the one that stood in its place
abbrev pub Room : ℕ → ℕ → (ℕ → ℕ → ℕ) → ℕ → Type 0
Room n window count m = (count m m < window) ⊎ ((i : ℕ) → i < n → i ≢ m → count m m - window < count i m)

-- member m has done all that there was to do: it has what the others have put, and has no room for its next
-- message, nor, if none is left, for a null where somebody is ahead of it
pub record Rests (n window : ℕ) (left : ℕ → ℕ) (m : ℕ) (count : ℕ → ℕ → ℕ) : Type 0 where
  pub taken : (t : ℕ) → t < n → t ≢ m → count m t ≡ count t t
  pub sent : count m m < left m → Room n window count m → ⊥
  pub filled : left m ≤ count m m → Room n window count m → (s : ℕ) → s < n → count m s ≤ count m m

-- where all others have got as far as r rounds bring them, the slot of an early item is free
room_for : (n window : ℕ) (left : ℕ → ℕ) (r m s : ℕ) (count : ℕ → ℕ → ℕ) → 1 ≤ window → m < n
    → ((i : ℕ) → i < n → i ≢ m → HasCome n left r i (count i)) → s < n → count m m < left s
    → 3 * count m m ≤ r → Room n window count m
room_for n window left r m s count some within others l below few = by (cases_lt (count m m) window)
  where
    by : (count m m < window) ⊎ (window ≤ count m m) → Room n window count m
    by (inl early) = inl early
    by (inr late) = inr (λ i h d. (others i h d).has s m (count m m - window) l within (omega arith) (omega arith))

-- a member that has done all that there was to do has got as far as one round more brings it
pub come_more : (n window : ℕ) (left : ℕ → ℕ) (r m : ℕ) (count : ℕ → ℕ → ℕ) → 1 ≤ window → m < n
    → Rests n window left m count → ((i : ℕ) → i < n → i ≢ m → HasCome n left r i (count i))
    → HasCome n left (r + 1) m (count m)
come_more n window left r m count some within rests others = record { own = own; put = put; has = has }
  where
    room : (s : ℕ) → s < n → count m m < left s → 3 * count m m ≤ r → Room n window count m
    room s l below few = room_for n window left r m s count some within others l below few

    own : (k : ℕ) → k < left m → 3 * k + 1 ≤ r + 1 → k < count m m
    own k below few = by (cases_lt k (count m m))
      where
        by : (k < count m m) ⊎ (count m m ≤ k) → k < count m m
        by (inl is) = is
        by (inr not_yet) = absurd (rests.sent (omega arith) (room m within (omega arith) (omega arith)))

    put : (s k : ℕ) → s < n → k < left s → 3 * k + 2 ≤ r + 1 → k < count m m
    put s k l below few = by (cases_lt k (count m m)) (cases_lt (count m m) (left m)) (cases_eq s m)
      where
        by : (k < count m m) ⊎ (count m m ≤ k) → (count m m < left m) ⊎ (left m ≤ count m m)
            → (s ≡ m) ⊎ (s ≢ m) → k < count m m
        by (inl is) more same = is
        by (inr not_yet) (inl more) same = absurd (omega (arith, own (count m m) more (omega arith)))
        by (inr not_yet) (inr none) (inl same) = absurd (grind (arith, same))
        by (inr not_yet) (inr none) (inr other) = absurd (omega (
          arith,
          rests.filled none (room s l (omega arith) (omega arith)) s l,
          rests.taken s l other,
          (others s l other).own k below (omega arith),
        ))

    has : (s t k : ℕ) → s < n → t < n → k < left s → 3 * k + 3 ≤ r + 1 → k < count m t
    has s t k l h below few = by (cases_eq t m)
      where
        by : (t ≡ m) ⊎ (t ≢ m) → k < count m t
        by (inl same) = rw same (put s k l below (omega arith))
        by (inr other) = omega (arith, rests.taken t h other, (others t h other).put s k l below (omega arith))

-- no round brings nothing
pub come_none : (n : ℕ) (left : ℕ → ℕ) (m : ℕ) (count : ℕ → ℕ) → HasCome n left 0 m count
come_none n left m count = record {
  own = λ k below few. absurd (omega (arith, few));
  put = λ s k l below few. absurd (omega (arith, few));
  has = λ s t k l b below few. absurd (omega (arith, few));
}

-- who has got as far as a round more brings it has got so far before
pub come_less : (n : ℕ) (left : ℕ → ℕ) (r m : ℕ) (count : ℕ → ℕ) → HasCome n left (r + 1) m count
    → HasCome n left r m count
come_less n left r m count h = record {
  own = λ k below few. h.own k below (omega arith);
  put = λ s k l below few. h.put s k l below (omega arith);
  has = λ s t k l b below few. h.has s t k l b below (omega arith);
}
