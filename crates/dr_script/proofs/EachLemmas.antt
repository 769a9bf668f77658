-- Walking the places that the elements of a list give.
use Rattle.std.proofs.Common.{◌≡◌, ℕ, ◌+◌, ◌<◌, zero, suc, List, [], ◌∷◌, ◌++◌, length, get_or, take, map, Option, Some, None, refl, sym, ◌∙◌, subst, arith, Bool, true, false}
use Rattle.std.proofs.lemmas.List.{take_more, length-take-le}
use Rattle.dr_script.specs.{Places.{each_from, each, unless, broken_at, or_else}, declared.passage.Broken.Broken}
use Rattle.dr_script.specs.declared.passage.Passage.{Passage}

-- of two lists of places, the first place is that of the one, else that of the other
pub broken_at_append : (rule : ℕ) (ps qs : List Passage) → broken_at rule (ps ++ qs)
    ≡ or_else (broken_at rule ps) (broken_at rule qs)
broken_at_append rule [] qs = refl
broken_at_append rule (p ∷ ps) qs = refl

or_else_none : {A : Type 0} (o : Option A) → or_else o None ≡ o
or_else_none None = refl
or_else_none (Some x) = refl

-- where one or the other is nothing, both are nothing
pub neither : {A : Type 0} (o p : Option A) → or_else o p ≡ None → (o ≡ None) × (p ≡ None)
neither None p none = (refl, none)
neither (Some x) p none = absurd cc

both_none : {A : Type 0} (o p : Option A) → o ≡ None → p ≡ None → or_else o p ≡ None
both_none None p first second = second
both_none (Some x) p first second = absurd cc

-- behind nothing, the other stands
pub behind_none : {A : Type 0} (o p q : Option A) → o ≡ None → p ≡ q → or_else o p ≡ q
behind_none None p q first second = second
behind_none (Some x) p q first second = absurd cc

-- where the one is something, it stands before the other
pub before_some : {A : Type 0} (o p : Option A) (x : A) → o ≡ Some x → or_else o p ≡ Some x
before_some None p x is = absurd cc
before_some (Some y) p x is = is

-- where no element has a place, and the next has none
each_from_more : {A B : Type 0} (rule n : ℕ) (f : ℕ → B → List Passage) (g : A → B) (xs : List A)
    (x : A) (k : ℕ) → k ≡ n + length xs → broken_at rule (each_from n f (map g xs)) ≡ None
    → broken_at rule (f k (g x)) ≡ None → broken_at rule (each_from n f (map g (xs ++ x ∷ []))) ≡ None
each_from_more rule n f g [] x k at before here =
    let same : k ≡ n = omega (arith, at) in
    broken_at_append rule (f n (g x)) [] ∙ or_else_none (broken_at rule (f n (g x)))
    ∙ subst (λ i. broken_at rule (f i (g x)) ≡ None) same here
each_from_more rule n f g (w ∷ ws) x k at before here =
    let split = broken_at_append rule (f n (g w)) (each_from (n + 1) f (map g ws)) in
    let joined : or_else (broken_at rule (f n (g w))) (broken_at rule (each_from (n + 1) f (map g ws)))
    ≡ None = sym split ∙ before in
    let parts = neither (broken_at rule (f n (g w))) (broken_at rule (each_from (n + 1) f (map g ws))) joined in
    broken_at_append rule (f n (g w)) (each_from (n + 1) f (map g (ws ++ x ∷ []))) ∙ both_none (broken_at rule
    (f n (g w))) _ parts.0 (each_from_more rule (n + 1) f g ws x k (omega (arith, at)) parts.1 here)

-- one more element has no place
pub each_more : {A B : Type 0} (rule : ℕ) (f : ℕ → B → List Passage) (g : A → B) (xs : List A) (i : ℕ) (x : A)
    → i < length xs → x ≡ get_or xs i x → broken_at rule (each f (map g (take i xs))) ≡ None
    → broken_at rule (f i (g x)) ≡ None → broken_at rule (each f (map g (take (i + 1) xs))) ≡ None
each_more rule f g xs i x inside is before here =
    let count : length (take i xs) ≡ i = length-take-le i xs (omega arith) in
    rw (take_more xs i x inside, ← is) (each_from_more rule 0 f g (take i xs) x i (omega (arith, count)) before here)

each_from_stops : {A B : Type 0} (rule n : ℕ) (f : ℕ → B → List Passage) (g : A → B) (xs : List A) (i k : ℕ)
    (d : A) (broken : Broken) → i < length xs → k ≡ n + i → broken_at rule (each_from n f (map g (take i xs))) ≡ None
    → broken_at rule (f k (g (get_or xs i d))) ≡ Some broken → broken_at rule (each_from n f (map g xs)) ≡ Some broken
each_from_stops rule n f g [] i k d broken inside at before here = absurd (omega arith)
each_from_stops rule n f g (x ∷ xs) zero k d broken inside at before here =
    let same : k ≡ n = omega (arith, at) in
    broken_at_append rule (f n (g x)) (each_from (n + 1) f (map g xs)) ∙ before_some (broken_at rule
    (f n (g x))) _ broken (subst (λ j. broken_at rule (f j (g x)) ≡ Some broken) same here)
each_from_stops rule n f g (x ∷ xs) (suc i) k d broken inside at before here =
    let split = broken_at_append rule (f n (g x)) (each_from (n + 1) f (map g (take i xs))) in
    let parts = neither (broken_at rule (f n (g x)))
    (broken_at rule (each_from (n + 1) f (map g (take i xs)))) (sym split ∙ before) in
    broken_at_append rule (f n (g x)) (each_from (n + 1) f (map g xs))
    ∙ behind_none (broken_at rule (f n (g x))) _ (Some broken) parts.0
    (each_from_stops rule (n + 1) f g xs i k d broken (omega arith) (omega (arith, at)) parts.1 here)

-- one element has the first place
pub each_stops : {A B : Type 0} (rule : ℕ) (f : ℕ → B → List Passage) (g : A → B) (xs : List A) (i : ℕ)
    (x : A) (broken : Broken) → i < length xs → x ≡ get_or xs i x → broken_at rule (each f (map g (take i xs))) ≡ None
    → broken_at rule (f i (g x)) ≡ Some broken → broken_at rule (each f (map g xs)) ≡ Some broken
each_stops rule f g xs i x broken inside is before here = each_from_stops rule 0 f g xs i i x broken inside
    (omega arith) before (subst (λ y. broken_at rule (f i (g y)) ≡ Some broken) is here)

-- where the test passes, the rule is broken nowhere
pub unless_kept : (rule : ℕ) (test : Bool) (place : Passage) → test ≡ true → broken_at rule (unless test place) ≡ None
unless_kept rule true place is = refl
unless_kept rule false place is = absurd cc

-- where the test fails, the rule is broken at the place
pub unless_broken : (rule : ℕ) (test : Bool) (place : Passage) → test ≡ false
    → broken_at rule (unless test place) ≡ Some (record { rule = rule; place = place })
unless_broken rule true place is = absurd cc
unless_broken rule false place is = refl
