-- Masks and members by which a vote is allowed.
use Rattle.std.proofs.Common.{◌≡◌, ℕ, zero, suc, ◌<◌, ◌≤◌, Bool, true, false, refl, sym, ap, ◌∙◌, ◌⊎◌, inl, inr, arith, map, fold, min, if◌then◌else◌, max, subst, ◌^◌}
use Rattle.std.proofs.lemmas.Bool.{cases_lt}
use Rattle.dr_entry.proofs.{ListFacts.{one_min, one_max}, NumberFacts.last_or_below}
use Rattle.dr_history.{specs.Members.{has, members_below}, proofs.Masks.none_above}

pub min_below : (f : ℕ → ℕ) (mask a i n : ℕ) → i < n → has mask i ≡ true
    → fold min a (map f (members_below mask n)) ≤ f i
unfolding members_below
min_below f mask a i zero l h = absurd (omega arith)
min_below f mask a i (suc n) l h = rw (one_min f a n (members_below mask n) (has mask n))
    (by (has mask n) refl (last_or_below i n l) (λ m. min_below f mask a i n m h))
  where
    by : (b : Bool) → has mask n ≡ b → (i ≡ n) ⊎ (i < n) → (i < n → fold min a (map f (members_below mask n)) ≤ f i)
        → (if b then min (fold min a (map f (members_below mask n))) (f n) else fold min a
        (map f (members_below mask n))) ≤ f i
    by true e (inl same) rest = rw same (omega arith)
    by true e (inr lt) rest = omega (arith, rest lt)
    by false e (inl same) rest = absurd (cc (sym e ∙ ap (has mask) (sym same) ∙ h))
    by false e (inr lt) rest = rest lt

pub max_above : (f : ℕ → ℕ) (mask a i n : ℕ) → i < n → has mask i ≡ true
    → f i ≤ fold max a (map f (members_below mask n))
unfolding members_below
max_above f mask a i zero l h = absurd (omega arith)
max_above f mask a i (suc n) l h = rw (one_max f a n (members_below mask n) (has mask n))
    (by (has mask n) refl (last_or_below i n l) (λ m. max_above f mask a i n m h))
  where
    by : (b : Bool) → has mask n ≡ b → (i ≡ n) ⊎ (i < n) → (i < n → f i ≤ fold max a (map f (members_below mask n)))
        → f i ≤ (if b then max (fold max a (map f (members_below mask n))) (f n) else fold max a
        (map f (members_below mask n)))
    by true e (inl same) rest = rw same (omega arith)
    by true e (inr lt) rest = omega (arith, rest lt)
    by false e (inl same) rest = absurd (cc (sym e ∙ ap (has mask) (sym same) ∙ h))
    by false e (inr lt) rest = rest lt

-- it is that of some member, or what it begins with
abbrev pub IsFound : (ℕ → ℕ) → ℕ → ℕ → ℕ → Type 0
IsFound f mask a x = (x ≡ a) ⊎ ((i : ℕ) × (has mask i ≡ true) × (x ≡ f i))

pub min_found : (f : ℕ → ℕ) (mask a n : ℕ) → IsFound f mask a (fold min a (map f (members_below mask n)))
unfolding members_below
min_found f mask a zero = inl refl
min_found f mask a (suc n) = subst (IsFound f mask a) (sym (one_min f a n (members_below mask n) (has mask n)))
    (by (has mask n) refl (fold min a (map f (members_below mask n))) (min_found f mask a n))
  where
    less : (x : ℕ) → has mask n ≡ true → IsFound f mask a x → (x < f n) ⊎ (f n ≤ x) → IsFound f mask a (min x (f n))
    less x e found (inl l) = let same : x ≡ min x (f n) = omega (arith, l) in
        subst (IsFound f mask a) same found
    less x e found (inr l) = inr (n, e, omega (arith, l))

    by : (b : Bool) → has mask n ≡ b → (x : ℕ) → IsFound f mask a x → IsFound f mask a (if b then min x (f n) else x)
    by true e x found = less x e found (cases_lt x (f n))
    by false e x found = found

pub max_found : (f : ℕ → ℕ) (mask a n : ℕ) → IsFound f mask a (fold max a (map f (members_below mask n)))
unfolding members_below
max_found f mask a zero = inl refl
max_found f mask a (suc n) = subst (IsFound f mask a) (sym (one_max f a n (members_below mask n) (has mask n)))
    (by (has mask n) refl (fold max a (map f (members_below mask n))) (max_found f mask a n))
  where
    more : (x : ℕ) → has mask n ≡ true → IsFound f mask a x → (x < f n) ⊎ (f n ≤ x) → IsFound f mask a (max x (f n))
    more x e found (inl l) = inr (n, e, omega (arith, l))
    more x e found (inr l) = let same : x ≡ max x (f n) = omega (arith, l) in
        subst (IsFound f mask a) same found

    by : (b : Bool) → has mask n ≡ b → (x : ℕ) → IsFound f mask a x → IsFound f mask a (if b then max x (f n) else x)
    by true e x found = more x e found (cases_lt x (f n))
    by false e x found = found

-- a mask of 16 bits has no member above
pub small_member : (mask i : ℕ) → mask < 2 ^ 16 → has mask i ≡ true → i < 16
small_member mask i small h = by (cases_lt i 16)
  where
    by : (i < 16) ⊎ (16 ≤ i) → i < 16
    by (inl l) = l
    by (inr g) = absurd (cc (h, none_above mask i small g))
