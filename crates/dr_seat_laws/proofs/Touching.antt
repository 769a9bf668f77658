-- Something else for the votes for one call alone.
use Rattle.std.proofs.Common.{◌≡◌, refl, ap, ◌∙◌, ◌⊎◌, inl, inr, ℕ, List, [], ◌∷◌}
use Rattle.std.proofs.lemmas.Bool.{cases_eq}
use Rattle.dr_calls.specs.Wire.{Called, Voted}
use Rattle.dr_door.specs.Apart.{Apart}

-- it is so, or it isn't
abbrev pub Decided : Type 0 → Type 0
Decided A = A ⊎ (A → ⊥)

same-numbers : (xs ys : List ℕ) → Decided (xs ≡ ys)
same-numbers [] [] = inl refl
same-numbers [] (y ∷ ys) = inr (λ e. absurd (cc e))
same-numbers (x ∷ xs) [] = inr (λ e. absurd (cc e))
same-numbers (x ∷ xs) (y ∷ ys) = by (cases_eq x y) (same-numbers xs ys)
  where
    by : Decided (x ≡ y) → Decided (xs ≡ ys) → Decided (x ∷ xs ≡ y ∷ ys)
    by (inl e) (inl f) = inl (ap (λ z. z ∷ xs) e ∙ ap (λ zs. y ∷ zs) f)
    by (inl e) (inr n) = inr (λ f. n (cc f))
    by (inr n) rest = inr (λ f. n (cc f))

pub same-calls : (c d : Called) → Decided (c ≡ d)
same-calls c d = by (cases_eq c.set d.set) (same-numbers c.lengths d.lengths) (cases_eq c.age d.age)
  where
    by : Decided (c.set ≡ d.set) → Decided (c.lengths ≡ d.lengths) → Decided (c.age ≡ d.age) → Decided (c ≡ d)
    by (inl e) (inl f) (inl h) = inl (λ z. record { set = e z; lengths = f z; age = h z })
    by (inr n) f h = inr (λ e. n (ap (λ x. x.set) e))
    by (inl e) (inr n) h = inr (λ e. n (ap (λ x. x.lengths) e))
    by (inl e) (inl f) (inr n) = inr (λ e. n (ap (λ x. x.age) e))

chosen : {A : Type 0} {P : Type 0} → Decided P → A → A → A
chosen (inl e) x y = x
chosen (inr n) x y = y

chosen-in : {A P : Type 0} (d : Decided P) (x y : A) → P → chosen d x y ≡ x
unfolding chosen
chosen-in (inl e) x y h = refl
chosen-in (inr n) x y h = absurd (n h)

chosen-out : {A P : Type 0} (d : Decided P) (x y : A) → (P → ⊥) → chosen d x y ≡ y
unfolding chosen
chosen-out (inl e) x y n = absurd (n e)
chosen-out (inr k) x y n = refl

-- with this for the votes for a call
pub touched : Called → (Apart → Apart) → (Voted → Apart) → Voted → Apart
touched c f apart v = chosen (same-calls v.call c) (f (apart v)) (apart v)

pub touched-in : (c : Called) (f : Apart → Apart) (apart : Voted → Apart) (v : Voted) → v.call ≡ c
    → touched c f apart v ≡ f (apart v)
unfolding touched
touched-in c f apart v e = chosen-in (same-calls v.call c) (f (apart v)) (apart v) e

pub touched-out : (c : Called) (f : Apart → Apart) (apart : Voted → Apart) (v : Voted) → (v.call ≡ c → ⊥)
    → touched c f apart v ≡ apart v
unfolding touched
touched-out c f apart v n = chosen-out (same-calls v.call c) (f (apart v)) (apart v) n

-- with this for the vote of a member for a call
pub begun-at : Called → ℕ → (Voted → Apart) → (Voted → Apart) → Voted → Apart
begun-at c m new apart v = chosen (same-calls v.call c) (chosen (cases_eq v.member m) (new v) (apart v)) (apart v)

pub begun-in : (c : Called) (m : ℕ) (new apart : Voted → Apart) (v : Voted) → v.call ≡ c → v.member ≡ m
    → begun-at c m new apart v ≡ new v
unfolding begun-at
begun-in c m new apart v e f = chosen-in (same-calls v.call c) (chosen (cases_eq v.member m) (new v) (apart v))
    (apart v) e ∙ chosen-in (cases_eq v.member m) (new v) (apart v) f

pub begun-out : (c : Called) (m : ℕ) (new apart : Voted → Apart) (v : Voted) → (v.call ≡ c → v.member ≡ m → ⊥)
    → begun-at c m new apart v ≡ apart v
unfolding begun-at
begun-out c m new apart v n = by (same-calls v.call c)
  where
    by : Decided (v.call ≡ c) → chosen (same-calls v.call c) (chosen (cases_eq v.member m) (new v) (apart v))
        (apart v)
        ≡ apart v
    by (inl e) = chosen-in (same-calls v.call c) (chosen (cases_eq v.member m) (new v) (apart v)) (apart v) e
        ∙ chosen-out (cases_eq v.member m) (new v) (apart v) (n e)
    by (inr k) = chosen-out (same-calls v.call c) (chosen (cases_eq v.member m) (new v) (apart v)) (apart v) k
