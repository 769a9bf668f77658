-- The logs of a list by number, the holders of an age, and the longest of them.
use Rattle.std.proofs.Common.{◌≡◌, sym, ◌∙◌, subst, ℕ, ◌+◌, ◌<◌, ◌≤◌, ◌⊎◌, inl, inr, arith, List, [], length, Option, None, Some}
use Rattle.std.proofs.lemmas.{Bool.cases_lt, List.{append-nil, get_or_past}, Option.none-some}
use Rattle.dr_entry.specs.declared.entry.Entry.{Entry}
use Rattle.dr_history.{specs.Restarting.AreAlong, proofs.{Keeping.along_by_longest, Restarts.turned}}
use Rattle.dr_restart.specs.{Choosing.{AreOnHolder, Handed}, Refusing.{AreHoldersAlong, IsFirstSplit, IsHeldBy}}
use Rattle.dr_restart.specs.declared.lists.LogLists.{LogLists}
use Rattle.dr_restart.proofs.Choosing.{held_some, IsLongestBelow, by_holder, one_held}
use Rattle.dr_quorum.specs.{Comparing.{AreAlongBelow, IsFirstApart}, Handing.handed_by}

-- a log that was handed in has a place in the list
pub handed_within : (lists : List (Option LogLists)) (m : ℕ) (log : LogLists) → handed_by lists m ≡ Some log
    → m < length lists
handed_within lists m log at = by (cases_lt m (length lists))
  where
    by : (m < length lists) ⊎ (length lists ≤ m) → m < length lists
    by (inl l) = l
    by (inr l) = absurd (none-some log (sym (get_or_past lists m None l) ∙ at))

pub held_within : (lists : List (Option LogLists)) (age m : ℕ) (es : List Entry)
    → IsHeldBy (handed_by lists) age m es → m < length lists
held_within lists age m es x = handed_within lists m x.0 x.1

-- ---- the longest

pub longest_all : (lists : List (Option LogLists)) (age m best most i : ℕ) (f : List Entry)
    → IsLongestBelow (handed_by lists) age m best most → length lists ≤ m → IsHeldBy (handed_by lists) age i f
    → (es : List Entry) × IsHeldBy (handed_by lists) age best es × (length f ≤ length es)
longest_all lists age m best most i f all l x =
    let less : length f ≤ most = all.longest i f (omega (arith, held_within lists age i f x, l)) x in
    let t = all.held (omega (arith, held_some (handed_by lists) age i f x, less)) in
    (t.0, t.1, omega (arith, t.2, less))

-- ---- along one another

pub along_more : (h : Handed) (age m : ℕ) (es : List Entry) → AreAlongBelow h age m es
    → ((f : List Entry) → IsHeldBy h age m f → AreAlong f es) → AreAlongBelow h age (m + 1) es
along_more h age m es old here i f l x = by (cases_lt i m)
  where
    by : (i < m) ⊎ (m ≤ i) → AreAlong f es
    by (inl k) = old i f k x
    by (inr k) =
        let same : i ≡ m = omega (arith, l, k) in here f (subst (λ j. IsHeldBy h age j f) same x)

-- where what all holders have is along the longest list, it is along one another
pub fronts_along : (lists : List (Option LogLists)) (age m : ℕ) (es : List Entry) → length lists ≤ m
    → AreAlongBelow (handed_by lists) age m es
    → ((f : List Entry) → AreOnHolder (handed_by lists) age f → length f ≤ length es)
    → AreHoldersAlong (handed_by lists) age
fronts_along lists age m es l all short f g x y =
    along_by_longest f g es (along f x) (along g y) (short f x) (short g y)
  where
    along : (e : List Entry) → AreOnHolder (handed_by lists) age e → AreAlong e es
    along e z =
        let t = by_holder (handed_by lists) age e z in
        all t.0 e (omega (arith, held_within lists age t.0 e t.1, l)) t.1

-- so it is of the holders below a member
abbrev pub AreAllAlongBelow : Handed → ℕ → ℕ → Type 0
AreAllAlongBelow h age b =
    (i j : ℕ) (f g : List Entry) → i < j → j < b → IsHeldBy h age i f → IsHeldBy h age j g → AreAlong f g

pub all_more : (h : Handed) (age b : ℕ) → AreAllAlongBelow h age b
    → ((es : List Entry) → IsHeldBy h age b es → AreAlongBelow h age b es) → AreAllAlongBelow h age (b + 1)
all_more h age b old here i j f g l k x y = by (cases_lt j b)
  where
    by : (j < b) ⊎ (b ≤ j) → AreAlong f g
    by (inl less) = old i j f g l less x y
    by (inr more) =
        let same : j ≡ b = omega (arith, k, more) in
        here g (subst (λ n. IsHeldBy h age n g) same y) i f (omega (arith, l, same)) x

pub all_along : (lists : List (Option LogLists)) (age b : ℕ) → length lists ≤ b
    → AreAllAlongBelow (handed_by lists) age b → AreHoldersAlong (handed_by lists) age
all_along lists age b l all f g x y = by (by_holder h age f x) (by_holder h age g y)
  where
    h : Handed
    h = handed_by lists

    apart : (i j : ℕ) → (i < j) ⊎ ((i ≡ j) ⊎ (j < i))
    apart i j = grind arith

    within : (n : ℕ) (e : List Entry) → IsHeldBy h age n e → n < b
    within n e z = omega (arith, held_within lists age n e z, l)

    by : (m : ℕ) × IsHeldBy h age m f → (n : ℕ) × IsHeldBy h age n g → AreAlong f g
    by (m, z) (n, w) = cases (apart m n)
      where
        cases : (m < n) ⊎ ((m ≡ n) ⊎ (n < m)) → AreAlong f g
        cases (inl k) = all m n f g k (within n g w) z w
        cases (inr (inl e)) =
            let same : f ≡ g = one_held h age n f g (subst (λ i. IsHeldBy h age i f) e z) w in
            inl ([], append-nil f ∙ same)
        cases (inr (inr k)) = turned g f (all n m g f k (within m f z) w z)

-- the first pair that differs
pub first_split : (h : Handed) (age b a place : ℕ) (es : List Entry) → AreAllAlongBelow h age b
    → IsHeldBy h age b es → IsFirstApart h age b es a place → IsFirstSplit h age a b place
first_split h age b a place es all held apart = record {
  below = apart.below;
  before = λ i j f g earlier x y. by i j f g x y earlier.0 earlier.1;
  one = apart.other;
  other = es;
  in_a = apart.held;
  in_b = held;
  differ = apart.differ;
}
  where
    by : (i j : ℕ) (f g : List Entry) → IsHeldBy h age i f → IsHeldBy h age j g → i < j
        → (j < b) ⊎ ((j ≡ b) × (i < a)) → AreAlong f g
    by i j f g x y l (inl k) = all i j f g l k x y
    by i j f g x y l (inr k) =
        let same : es ≡ g = one_held h age b es g held (subst (λ n. IsHeldBy h age n g) k.0 y) in
        subst (AreAlong f) same (apart.before i f k.1 x)
