-- What stood on the log of a member before its first vote for an age from a on, or stands there now.
use Rattle.std.proofs.Common.{◌≡◌, refl, ap, sym, ◌∙◌, ◌⊎◌, inl, inr, subst, ℕ, zero, suc, ◌+◌, ◌<◌, ◌≤◌, ◌==◌, ◌&&◌, nat_le, if◌then◌else◌, arith, List, [], ◌∷◌, ◌++◌, length, Contains, Option, None, Some, slice_get, length-append, ⊎_elim}
use Rattle.std.proofs.lemmas.Bool.{cases_eq, cases_lt, eq-eqb, le-leb, lt-leb, ne_eqb}
use Rattle.std.proofs.lemmas.{List.Elements.Contains-push_cases, Option.none-some}
use Rattle.dr_entry.proofs.{BoolFacts.{first_fails, second_fails, together}, ListParts.in-cases}
use Rattle.dr_entry.proofs.ListPlaces.{slice_get-left, slice_get-push_cases, slice_get-seam}
use Rattle.dr_restart.specs.declared.lists.LogLists.{LogLists}
use Rattle.dr_calls.specs.Wire.{Voted, lists_below, stood}

-- the test of a vote
hit : (v : Voted) (a m : ℕ) (x y : LogLists) → v.member ≡ m → a ≤ v.call.age
    → (if v.member == m && nat_le a v.call.age then x else y) ≡ x
hit v a m x y e l = ap (λ b. if b then x else y)
    (together (v.member == m) (nat_le a v.call.age) (eq-eqb v.member m e) (le-leb a v.call.age l))

miss : (v : Voted) (a m : ℕ) (x y : LogLists) → (v.member ≡ m → v.call.age < a)
    → (if v.member == m && nat_le a v.call.age then x else y) ≡ y
miss v a m x y none = by (cases_eq v.member m)
  where
    by : (v.member ≡ m) ⊎ (v.member ≡ m → ⊥) → (if v.member == m && nat_le a v.call.age then x else y) ≡ y
    by (inl e) = ap (λ b. if b then x else y)
        (second_fails (v.member == m) (nat_le a v.call.age) (lt-leb a v.call.age (none e)))
    by (inr d) = ap (λ b. if b then x else y)
        (first_fails (v.member == m) (nat_le a v.call.age) (ne_eqb v.member m d))

-- without such a vote it is what stands there now
pub at-none : (vs : List Voted) (a m : ℕ) (now : LogLists)
    → ((v : Voted) → Contains vs v → v.member ≡ m → v.call.age < a) → stood vs a m now ≡ now
unfolding stood
at-none [] a m now none = refl
at-none (v ∷ vs) a m now none = miss v a m v.before (stood vs a m now) (none v (0, omega arith, refl))
    ∙ at-none vs a m now (λ u c. none u (suc c.0, omega (arith, c.1), c.2))

-- with one it doesn't matter what does
pub at-some : (vs : List Voted) (a m : ℕ) (v : Voted) → Contains vs v → v.member ≡ m → a ≤ v.call.age
    → (x y : LogLists) → stood vs a m x ≡ stood vs a m y
unfolding stood
at-some [] a m v c e l x y = absurd (omega (arith, c.1))
at-some (u ∷ vs) a m v c e l x y = by (in-cases u v vs c) (λ d. at-some vs a m v d e l x y)
  where
    by : (u ≡ v) ⊎ Contains vs v → (Contains vs v → stood vs a m x ≡ stood vs a m y)
        → stood (u ∷ vs) a m x ≡ stood (u ∷ vs) a m y
    by (inl same) rest =
        let f = subst (λ t. t.member ≡ m) (sym same) e in
        let g = subst (λ t. a ≤ t.call.age) (sym same) l in
        hit u a m u.before (stood vs a m x) f g ∙ sym (hit u a m u.before (stood vs a m y) f g)
    by (inr d) rest = ap (λ l. if u.member == m && nat_le a u.call.age then u.before else l) (rest d)

-- one vote more
pub at-push : (vs : List Voted) (u : Voted) (a m : ℕ) (now : LogLists)
    → stood (vs ++ u ∷ []) a m now ≡ stood vs a m (stood (u ∷ []) a m now)
unfolding stood
at-push [] u a m now = refl
at-push (v ∷ vs) u a m now = ap (λ l. if v.member == m && nat_le a v.call.age then v.before else l) (at-push vs u a m now)

pub at-hit : (u : Voted) (a m : ℕ) (now : LogLists) → u.member ≡ m → a ≤ u.call.age → stood (u ∷ []) a m now ≡ u.before
unfolding stood
at-hit u a m now e l = hit u a m u.before now e l

pub at-miss : (u : Voted) (a m : ℕ) (now : LogLists) → (u.member ≡ m → u.call.age < a) → stood (u ∷ []) a m now ≡ now
unfolding stood
at-miss u a m now none = miss u a m u.before now none

-- each member's votes stand by their ages
unfoldable pub AreSorted : List Voted → Type 0
AreSorted [] = zero ≡ zero
AreSorted (v ∷ vs) = ((u : Voted) → Contains vs u → u.member ≡ v.member → v.call.age < u.call.age) × AreSorted vs

pub none-sorted : AreSorted []
unfolding AreSorted
none-sorted = refl

pub sorted-push : (vs : List Voted) (u : Voted) → AreSorted vs
    → ((v : Voted) → Contains vs v → v.member ≡ u.member → v.call.age < u.call.age) → AreSorted (vs ++ u ∷ [])
unfolding AreSorted
sorted-push [] u s above = ((λ v c e. absurd (omega (arith, c.1))), refl)
sorted-push (v ∷ vs) u s above = (
  (λ t c e. ⊎_elim (λ d. s.0 t d e) (λ same. subst (λ x. v.call.age < x.call.age) same
      (above v (0, omega arith, refl) (sym e ∙ ap (λ x. x.member) (sym same)))) (Contains-push_cases vs u t c)),
  sorted-push vs u s.1 (λ t c e. above t (suc c.0, omega (arith, c.1), c.2) e),
)

-- where a member has a vote for this very age, it is what stood there before that
pub at-age : (vs : List Voted) (a m : ℕ) (v : Voted) (now : LogLists) → AreSorted vs → Contains vs v → v.member ≡ m
    → v.call.age ≡ a → stood vs a m now ≡ v.before
unfolding stood AreSorted
at-age [] a m v now s c e f = absurd (omega (arith, c.1))
at-age (u ∷ vs) a m v now s c e f = by (in-cases u v vs c) (λ d. at-age vs a m v now s.1 d e f)
  where
    by : (u ≡ v) ⊎ Contains vs v → (Contains vs v → stood vs a m now ≡ v.before) → stood (u ∷ vs) a m now ≡ v.before
    by (inl same) rest = hit u a m u.before (stood vs a m now) (subst (λ t. t.member ≡ m) (sym same) e)
        (omega (arith, subst (λ t. t.call.age ≡ a) (sym same) f)) ∙ ap (λ t. t.before) same
    by (inr d) rest = miss u a m u.before (stood vs a m now) (λ g. omega (arith, s.0 v d (e ∙ sym g), f)) ∙ rest d

-- a member has a vote for this age, or none
pub find : (vs : List Voted) (a m : ℕ) → ((v : Voted) × Contains vs v × (v.member ≡ m) × (v.call.age ≡ a))
    ⊎ ((v : Voted) → Contains vs v → v.member ≡ m → v.call.age ≡ a → ⊥)
find [] a m = inr (λ v c e f. absurd (omega (arith, c.1)))
find (u ∷ vs) a m = by (cases_eq u.member m) (cases_eq u.call.age a) (find vs a m)
  where
    Found : Type 0
    Found = ((v : Voted) × Contains (u ∷ vs) v × (v.member ≡ m) × (v.call.age ≡ a))
        ⊎ ((v : Voted) → Contains (u ∷ vs) v → v.member ≡ m → v.call.age ≡ a → ⊥)

    none : (u.member ≡ m → u.call.age ≡ a → ⊥)
        → ((v : Voted) → Contains vs v → v.member ≡ m → v.call.age ≡ a → ⊥) → Found
    none n rest = inr (λ v c e f. ⊎_elim (λ same. n (subst (λ t. t.member ≡ m) (sym same) e)
        (subst (λ t. t.call.age ≡ a) (sym same) f)) (λ d. rest v d e f) (in-cases u v vs c))

    by : (u.member ≡ m) ⊎ (u.member ≡ m → ⊥) → (u.call.age ≡ a) ⊎ (u.call.age ≡ a → ⊥)
        → ((v : Voted) × Contains vs v × (v.member ≡ m) × (v.call.age ≡ a))
        ⊎ ((v : Voted) → Contains vs v → v.member ≡ m → v.call.age ≡ a → ⊥) → Found
    by p q (inl (v, c, e, f)) = inl (v, (suc c.0, omega (arith, c.1), c.2), e, f)
    by (inl p) (inl q) (inr rest) = inl (u, (0, omega arith, refl), p, q)
    by (inl p) (inr n) (inr rest) = none (λ _ f. n f) rest
    by (inr n) q (inr rest) = none (λ e _. n e) rest

-- without a vote for an age it is the same before that and behind
pub at-next : (vs : List Voted) (a m : ℕ) (now : LogLists)
    → ((v : Voted) → Contains vs v → v.member ≡ m → v.call.age ≡ a → ⊥) → stood vs a m now ≡ stood vs (a + 1) m now
unfolding stood
at-next [] a m now none = refl
at-next (v ∷ vs) a m now none = by (cases_eq v.member m) (cases_lt v.call.age a)
    (at-next vs a m now (λ u c. none u (suc c.0, omega (arith, c.1), c.2)))
  where
    out : stood vs a m now ≡ stood vs (a + 1) m now → (v.member ≡ m → v.call.age < a)
        → stood (v ∷ vs) a m now ≡ stood (v ∷ vs) (a + 1) m now
    out rest n = miss v a m v.before (stood vs a m now) n ∙ rest
        ∙ sym (miss v (a + 1) m v.before (stood vs (a + 1) m now) (λ e. omega (arith, n e)))

    by : (v.member ≡ m) ⊎ (v.member ≡ m → ⊥) → (v.call.age < a) ⊎ (a ≤ v.call.age)
        → stood vs a m now ≡ stood vs (a + 1) m now → stood (v ∷ vs) a m now ≡ stood (v ∷ vs) (a + 1) m now
    by (inl e) (inr l) rest =
        let n = none v (0, omega arith, refl) e in
        let above : a + 1 ≤ v.call.age = more (cases_eq v.call.age a) n in
        hit v a m v.before (stood vs a m now) e l ∙ sym (hit v (a + 1) m v.before (stood vs (a + 1) m now) e above)
      where
        more : (v.call.age ≡ a) ⊎ (v.call.age ≡ a → ⊥) → (v.call.age ≡ a → ⊥) → a + 1 ≤ v.call.age
        more (inl f) n = absurd (n f)
        more (inr f) n = omega (arith, f, l)
    by (inl e) (inl l) rest = out rest (λ _. l)
    by (inr n) d rest = out rest (λ e. absurd (n e))

-- ---- the logs of all members

pub length-lists : (f : ℕ → LogLists) (n : ℕ) → length (lists_below f n) ≡ n
unfolding lists_below
length-lists f zero = refl
length-lists f (suc n) = omega (arith, length-append (lists_below f n) (f n ∷ []), length-lists f n)

pub lists-at : (f : ℕ → LogLists) (n m : ℕ) (log : LogLists) → slice_get (lists_below f n) m ≡ Some log
    → (m < n) × (f m ≡ log)
unfolding lists_below
lists-at f zero m log e = absurd (none-some log e)
lists-at f (suc n) m log e = by (slice_get-push_cases (lists_below f n) (f n) log m e) (lists-at f n m log)
  where
    by : ((m < length (lists_below f n)) × (slice_get (lists_below f n) m ≡ Some log))
        ⊎ ((m ≡ length (lists_below f n)) × (f n ≡ log))
        → (slice_get (lists_below f n) m ≡ Some log → (m < n) × (f m ≡ log)) → (m < suc n) × (f m ≡ log)
    by (inl r) rest = let t = rest r.1 in (omega (arith, t.0), t.1)
    by (inr r) rest =
        let e = r.0 ∙ length-lists f n in (omega (arith, e), ap f e ∙ r.1)

pub at-lists : (f : ℕ → LogLists) (n m : ℕ) → m < n → slice_get (lists_below f n) m ≡ Some (f m)
unfolding lists_below
at-lists f zero m l = absurd (omega (arith, l))
at-lists f (suc n) m l = by (cases_eq m n) (at-lists f n m)
  where
    by : (m ≡ n) ⊎ (m ≡ n → ⊥) → (m < n → slice_get (lists_below f n) m ≡ Some (f m))
        → slice_get (lists_below f n ++ f n ∷ []) m ≡ Some (f m)
    by (inl e) rest = subst (λ k. slice_get (lists_below f n ++ f n ∷ []) k ≡ Some (f k)) (sym e)
        (subst (λ k. slice_get (lists_below f n ++ f n ∷ []) k ≡ Some (f n)) (length-lists f n)
        (slice_get-seam (lists_below f n) (f n) []))
    by (inr d) rest =
        let k : m < n = omega (arith, d, l) in
        slice_get-left (lists_below f n) (f n ∷ []) m (omega (arith, length-lists f n, k)) ∙ rest k

pub same-lists : (f g : ℕ → LogLists) (n : ℕ) → ((m : ℕ) → m < n → f m ≡ g m) → lists_below f n ≡ lists_below g n
unfolding lists_below
same-lists f g zero same = refl
same-lists f g (suc n) same = ap (λ l. l ++ f n ∷ []) (same-lists f g n (λ m l. same m (omega (arith, l))))
    ∙ ap (λ x. lists_below g n ++ x ∷ []) (same n (omega arith))

pub none-past : (f : ℕ → LogLists) (n m : ℕ) → n ≤ m → slice_get (lists_below f n) m ≡ None
none-past f n m l = by (slice_get (lists_below f n) m) refl
  where
    by : (o : Option LogLists) → slice_get (lists_below f n) m ≡ o → slice_get (lists_below f n) m ≡ None
    by None e = e
    by (Some log) e = absurd (omega (arith, (lists-at f n m log e).0, l))

-- where two have the same for a member
pub same-at : (f g : ℕ → LogLists) (n m : ℕ) → f m ≡ g m → slice_get (lists_below f n) m ≡ slice_get (lists_below g n) m
same-at f g n m e = by (cases_lt m n)
  where
    by : (m < n) ⊎ (n ≤ m) → slice_get (lists_below f n) m ≡ slice_get (lists_below g n) m
    by (inl l) = at-lists f n m l ∙ ap Some e ∙ sym (at-lists g n m l)
    by (inr l) = none-past f n m l ∙ sym (none-past g n m l)
