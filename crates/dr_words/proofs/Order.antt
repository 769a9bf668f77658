-- Growth is reflexive and transitive, and a mask that grows is no smaller a number.
use Rattle.std.{specs.Int.bit_at, proofs.lemmas.Nat.{and_le_r, Bits.{bit_at_and, bit_at-lt, same_from_bits}}}
use Rattle.std.proofs.Common.{◌≡◌, ℕ, ◌≤◌, refl, sym, ◌∙◌, subst, Bool, List, le_refl, le_trans, arith, bit_and, ◌⊎◌, inl, inr}
use Rattle.dr_words.specs.{Grown.{HasGrown, Grown}, Masks.IsPartOf}

-- a word has grown from itself
pub HasGrown_refl : (members column word : ℕ) → HasGrown members column word word
HasGrown_refl members column word = record { number = le_refl word; suspected = λ e i h. h; final = λ s l e h. refl }

-- an equal word has grown
pub HasGrown_same : (members column old new : ℕ) → new ≡ old → HasGrown members column old new
HasGrown_same members column old new same =
    subst (λ (v : ℕ). HasGrown members column old v) (sym same) (HasGrown_refl members column old)

-- a word that has grown twice has grown
pub HasGrown_trans : (members column a b c : ℕ) → HasGrown members column a b
    → HasGrown members column b c → HasGrown members column a c
HasGrown_trans members column a b c p q = record {
  number = le_trans p.number q.number;
  suspected = λ e i h. q.suspected e i (p.suspected e i h);
  final = λ s l e h. let same = p.final s l e h in q.final s l e (rw same h) ∙ same;
}

-- rows have grown from themselves
pub Grown_refl : (members : ℕ) (rows : List (List ℕ)) (marks : List Bool) → Grown members rows rows marks marks
Grown_refl members rows marks =
    record { words = λ i c. HasGrown_refl members c _; frozen = λ i h. h; still = λ i h. refl }

-- rows that have grown twice have grown
pub Grown_trans : (members : ℕ) (a b c : List (List ℕ)) (x y z : List Bool) → Grown members a b x y
    → Grown members b c y z → Grown members a c x z
Grown_trans members a b c x y z p q = record {
  words = λ i k. HasGrown_trans members k _ _ _ (p.words i k) (q.words i k);
  frozen = λ i h. q.frozen i (p.frozen i h);
  still = λ i h. q.still i (p.frozen i h) ∙ p.still i h;
}

-- a mask is no greater a number than one that it is a part of
pub IsPartOf-le : (part whole : ℕ) → IsPartOf part whole → part ≤ whole
IsPartOf-le part whole p = subst (λ (x : ℕ). x ≤ whole) (same_from_bits (bit_and part whole) part same)
    (and_le_r part whole)
  where
    same : (i : ℕ) → bit_at (bit_and part whole) i ≡ bit_at part i
    same i = grind (arith, bit_at_and part whole i, p i, bit_at-lt part i, bit_at-lt whole i)

-- words of which each has grown from every smaller one stay so with one more that all have grown into
pub line_with : (S : ℕ → Type 0) (n c top : ℕ) → ((x y : ℕ) → S x → S y → x ≤ y → HasGrown n c x y)
    → ((x : ℕ) → S x → HasGrown n c x top) → (x y : ℕ) → S x ⊎ (x ≡ top) → S y ⊎ (y ≡ top) → x ≤ y → HasGrown n c x y
line_with S n c top line into x y (inl p) (inl q) l = line x y p q l
line_with S n c top line into x y (inl p) (inr e) l = subst (HasGrown n c x) (sym e) (into x p)
line_with S n c top line into x y (inr e) (inl q) l = HasGrown_same n c x y (omega (arith, e, l, (into y q).number))
line_with S n c top line into x y (inr e) (inr d) l = HasGrown_same n c x y (d ∙ sym e)
