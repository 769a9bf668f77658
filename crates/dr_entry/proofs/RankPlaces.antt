-- The arithmetic of places: place k * n + s is item k of rank s, of n ranks.
use Rattle.std.proofs.Common.{◌≡◌, ◌≢◌, ℕ, arith, ◌+◌, ◌≤◌, ◌*◌, ◌/◌, ◌%◌, ◌<◌, ◌-◌, suc, ap, ◌∙◌, sym, suc-mul, lt_of_mul-lt-mul_right, mul_comm, mod-lt, le_antisymm, le_of_mul-le-mul_right, ap₂}
use Rattle.std.proofs.lemmas.Nat.{div-add-mod', mod-mul-add}

-- behind m whole rounds no place has a smaller number
pub rounds-le : (n m q : ℕ) → 0 < n → n * m ≤ q → m ≤ q / n
rounds-le n m q some l = omega (arith, lt_of_mul-lt-mul_right n {m = m} {n = suc (q / n)} up)
  where
    up : m * n < suc (q / n) * n
    up = omega (arith, mul_comm n m, l, div-add-mod' q n, mod-lt q some, suc-mul (q / n) n)

-- of n ranks, k places of rank s lie below x
pub record LieBelow (n s x k : ℕ) : Type 0 where
  pub low : x ≤ k * n + s
  pub high : k * n + s < x + n

-- below place 0 there is none
pub lie_none : (n s : ℕ) → s < n → LieBelow n s 0 0
lie_none n s l = record { low = omega arith; high = omega arith }

-- a place of another rank adds none
pub lie_same : (n s x k : ℕ) → s < n → x % n ≢ s → LieBelow n s x k → LieBelow n s (suc x) k
lie_same n s x k l other b = record { low = by; high = omega arith }
  where
    apart : x ≡ k * n + s → ⊥
    apart e = other (ap (λ z. z % n) e ∙ mod-mul-add k n s l)

    by : suc x ≤ k * n + s
    by = grind (arith, apart)

-- a place of rank s is the next of its rank
pub lie_next : (n s x k : ℕ) → s < n → x % n ≡ s → LieBelow n s x k → x / n ≡ k
lie_next n s x k l e b = le_antisymm (le_of_mul-le-mul_right down (omega arith))
    (omega (arith, lt_of_mul-lt-mul_right n {m = k} {n = suc (x / n)} up))
  where
    down : x / n * n ≤ k * n
    down = omega (arith, div-add-mod' x n)

    up : k * n < suc (x / n) * n
    up = omega (arith, div-add-mod' x n, suc-mul (x / n) n)

-- and it adds one
pub lie_more : (n s x k : ℕ) → s < n → x % n ≡ s → x / n ≡ k → LieBelow n s x k → LieBelow n s (suc x) (suc k)
lie_more n s x k l e same b =
    record { low = omega (arith, whole, suc-mul k n); high = omega (arith, whole, suc-mul k n) }
  where
    whole : x ≡ k * n + s
    whole = sym (div-add-mod' x n) ∙ ap₂ (λ q r. q * n + r) same e

-- a later place of the rank has at least these before it
pub lie_before : (n s x y k : ℕ) → y % n ≡ s → x ≤ y → LieBelow n s x k → k ≤ y / n
lie_before n s x y k e l b = omega (arith, lt_of_mul-lt-mul_right n {m = k} {n = suc (y / n)} up)
  where
    up : k * n < suc (y / n) * n
    up = omega (arith, b.high, l, e, div-add-mod' y n, suc-mul (y / n) n)
