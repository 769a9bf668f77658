-- Facts of lists: what holds of all elements, of some, or of those that pass a test.
use Rattle.std.specs.Fmt.{decimal}
use Rattle.std.specs.List.{IsAnyAnswer, All, cons_option, filter_map, range_with_len, count_by, position_or_len, position, flat_map}
use Rattle.std.{specs.Prelude.slice_get, proofs.lemmas.{Bool.{cases_eq, eqb-true}, Fmt.decimal_by_steps}}
use Rattle.std.proofs.Common.{◌≡◌, ℕ, Bool, ◌==◌, Contains, Decides, List, ◌+◌, [], ◌∷◌, ◌++◌, arith, Option, Some, None, refl, ◌≤◌, ◌<◌, length, take, get_or, subst, cond, filter, map, false, ◌%◌, ◌^◌, true, ◌&&◌, if◌then◌else◌, sym, ap, ◌∙◌, zero, suc, inl, inr, le_refl, not, ◌-◌, nat_lt, ◌⊎◌}
use Rattle.std.proofs.lemmas.{Bool.Decides.Decides-eqb, Option.{get_or_from_slice_get, slice_get_within, cond_some}}
use Rattle.std.proofs.lemmas.List.{map-id, get_or-map, length-map, Sums.{sum_by-cons, passes_at_first}}
use Rattle.std.proofs.lemmas.List.Elements.{contains_decides, Decides-contains, All-append, All-cons, All-more, All-nil, All-contains, All-contains_itself, All-filter, filter_passes, Contains-append_right, Contains-append_cases, Contains-append_left}
use Rattle.std.proofs.lemmas.List.FromFn.{filter_of_map_range_with_len_more, get_or-map-range_with_len, length-map-range_with_len}
use Rattle.dr_entry.proofs.NumberFacts.{not_comma, IsEarly, IsRunEnd, IsKnown}

-- what `contains` answers of numbers
pub contains_is : (xs : List ℕ) (x : ℕ) (r : Bool) → IsAnyAnswer (λ y b. (y == x) ≡ b) xs r
    → Decides r (Contains xs x)
contains_is xs x r h = Decides-contains xs x r (contains_decides ◌==◌ Decides-eqb xs x r h)

-- one more element has what all have
pub all_more : {A : Type 0} (P : A → Type 0) (xs : List A) (x : A) → All P xs → P x → All P (xs ++ x ∷ [])
all_more P xs x before here =
    All-append P xs (x ∷ []) before (All-cons P x [] here (λ k d inside. absurd (omega arith)))

pub nothing : {A : Type 0} (P : A → Type 0) → All P []
nothing P = λ k d inside. absurd (omega arith)

all_cons_option : {A : Type 0} (P : A → Type 0) (o : Option A) (xs : List A)
    → ((x : A) → o ≡ Some x → P x) → All P xs → All P (cons_option o xs)
all_cons_option P None xs here all = all
all_cons_option P (Some x) xs here all = All-cons P x xs (here x refl) all

pub all_filter_map : {A B : Type 0} (P : B → Type 0) (f : A → Option B)
    → ((x : A) (y : B) → f x ≡ Some y → P y) → (xs : List A) → All P (filter_map f xs)
all_filter_map P f each [] = nothing P
all_filter_map P f each (x ∷ xs) = all_cons_option P (f x) (filter_map f xs) (each x) (all_filter_map P f each xs)

-- what is at most a bound is at most a greater one, and so is one element more
pub most_more : {A : Type 0} (f : A → ℕ) (xs : List A) (i : ℕ) (x : A) (most most' : ℕ)
    → i < length xs → x ≡ get_or xs i x → All (λ y. f y ≤ most) (take i xs) → most ≤ most' → f x ≤ most'
    → All (λ y. f y ≤ most') (take (i + 1) xs)
most_more f xs i x most most' below is before grown here =
    All-more (λ y. f y ≤ most') xs i x below earlier (subst (λ y. f y ≤ most') is here)
  where
    earlier : All (λ y. f y ≤ most') (take i xs)
    earlier k d within = let old = before k d within in omega arith

-- the numbers below one more that pass a test
pub filter_range_more : (p : ℕ → Bool) (len : ℕ)
    → filter p (range_with_len 0 (len + 1)) ≡ filter p (range_with_len 0 len) ++ cond (p len) (len ∷ []) []
filter_range_more p len = rw (map-id (range_with_len 0 (len + 1)), map-id (range_with_len 0 len)) at
    (filter_of_map_range_with_len_more p (λ (n : ℕ). n) 0 len len (omega arith))

-- what holds of what each element gives
pub each_of_map : {X Y : Type 0} (P : Y → Type 0) (f : X → Y) (xs : List X) → All P (map f xs) → All (λ x. P (f x)) xs
each_of_map P f xs all k d within =
    subst P (get_or-map f xs k d (f d) within) (all k (f d) (rw (length-map xs f) within))

other_digit : (b : ℕ) → 45 ≤ b → All (λ b. (b == 44) ≡ false) (b ∷ [])
other_digit b above = All-cons (λ b. (b == 44) ≡ false) b [] (not_comma b above) (All-nil (λ b. (b == 44) ≡ false))

pub other_decimal : (n : ℕ) → n < 2 ^ 64 → All (λ b. (b == 44) ≡ false) (decimal n)
other_decimal n small = decimal_by_steps (λ n ds. All (λ b. (b == 44) ≡ false) ds)
    (λ n less. other_digit (48 + n) (omega arith)) (λ n ds least before. All-append
    (λ b. (b == 44) ≡ false) ds ((48 + n % 10) ∷ []) before (other_digit (48 + n % 10) (omega arith))) n small

-- a filter keeps no more than there is
pub filter_few : {A : Type 0} (p : A → Bool) (xs : List A) → length (filter p xs) ≤ length xs
filter_few p [] = omega arith
filter_few p (x ∷ xs) = by (p x) (filter_few p xs)
  where
    by : (b : Bool) → length (filter p xs) ≤ length xs
        → length (cond b (x ∷ filter p xs) (filter p xs)) ≤ length (x ∷ xs)
    by true few = omega (arith, few)
    by false few = omega (arith, few)

-- one number, in the mask or not, and filtered out or not
pub one : (p : ℕ → Bool) (n : ℕ) (there kept : Bool) → p n ≡ kept
    → (if there && kept then n ∷ [] else []) ≡ filter p (if there then n ∷ [] else [])
one p n true true e = rw e refl
one p n true false e = rw e refl
one p n false kept e = refl

-- tests of the elements of a list, and of what they were made of
pub count_by-map : {X : Type 0} (p : ℕ → Bool) (f : X → ℕ) (xs : List X)
    → count_by p (map f xs) ≡ count_by (λ x. p (f x)) xs
count_by-map p f [] = refl
count_by-map p f (x ∷ xs) = sum_by-cons (λ y. cond (p y) 1 0) (f x) (map f xs)
    ∙ ap (λ (n : ℕ). cond (p (f x)) 1 0 + n) (count_by-map p f xs) ∙ sym (sum_by-cons (λ y. cond (p (f y)) 1 0) x xs)

-- an element that stands at a number is so where each is
pub each_at : {A : Type 0} (P : A → Type 0) (xs : List A) (m : ℕ) (x : A) → All P xs → slice_get xs m ≡ Some x → P x
each_at P xs m x all there = subst P (get_or_from_slice_get xs m x x there) (all m x (slice_get_within xs m x there))

-- where nothing passes, each number of the range fails
pub none_pass : (p : ℕ → Bool) (a n k : ℕ) → length (filter p (range_with_len a n)) ≡ 0 → a
    ≤ k → k < a + n → p k ≡ false
none_pass p a zero k none least most = absurd (omega arith)
none_pass p a (suc n) k none least most = by (p a) refl none (λ e l. none_pass p (a + 1) n k e l (omega arith))
  where
    by : (b : Bool) → p a ≡ b → length
        (cond b (a ∷ filter p (range_with_len (a + 1) n)) (filter p (range_with_len (a + 1) n))) ≡ 0
        → (length (filter p (range_with_len (a + 1) n)) ≡ 0 → a + 1 ≤ k → p k ≡ false) → p k ≡ false
    by true e empty later = absurd (omega arith)
    by false e empty later = elim (cases_eq k a) [ inl here ↦ ap p here ∙ e | inr other ↦ later empty (omega arith) ]

-- tests that agree from where the range begins on
pub agree_above : (p q : ℕ → Bool) (a n : ℕ) → ((k : ℕ) → a ≤ k → q k ≡ p k)
    → filter q (range_with_len a n) ≡ filter p (range_with_len a n)
agree_above p q a zero same = refl
agree_above p q a (suc n) same = λ z. cond (same a (le_refl a) z) (a ∷ agree_above p q (a + 1) n later z)
    (agree_above p q (a + 1) n later z)
  where
    later : (k : ℕ) → a + 1 ≤ k → q k ≡ p k
    later k l = same k (omega arith)

-- what is true of each value
pub all_map : {X : Type 0} (f : ℕ → X) (P : X → Type 0) → ((k : ℕ) → P (f k)) → (a n : ℕ)
    → All P (map f (range_with_len a n))
all_map f P holds a n k d within =
    subst P (sym (get_or-map-range_with_len f a n k (a + k) d (omega (arith, length-map-range_with_len f a n))
    refl)) (holds (a + k))

pub map_alike : {X Y : Type 0} (f g : X → Y) (xs : List X) → All (λ x. f x ≡ g x) xs → map f xs ≡ map g xs
map_alike f g [] all = refl
map_alike f g (x ∷ xs) all = ap (λ y. y ∷ map f xs) (all 0 x (omega arith))
    ∙ ap (λ ys. g x ∷ ys) (map_alike f g xs (λ k d within. all (suc k) d (omega (arith, within))))

-- where no element passes, none was found
pub none_passes : {X : Type 0} (p : X → Bool) (xs : List X) → length xs ≤ position_or_len p xs
    → All (λ x. p x ≡ false) xs
none_passes p [] all = λ k d within. absurd (omega (arith, within))
none_passes p (x ∷ xs) all = elim (p x) as (λ b. p x ≡ b → suc (length xs) ≤ cond (not b) (1 + position_or_len p xs) 0
    → All (λ y. p y ≡ false) (x ∷ xs)) [
      | true ↦ λ _ few. absurd (omega (arith, few))
      | false ↦ λ fails more. All-cons (λ y. p y ≡ false) x xs fails (none_passes p xs (omega (arith, more)))
    ] refl all

pub contains_more : (end : ℕ) (ends : List ℕ) (status : ℕ) → Contains ends status → Contains (end ∷ ends) status
contains_more end ends status (i, below, is) = (suc i, omega (arith, below), is)

pub in_early : (rest : List ℕ) (status : ℕ) → IsEarly status → Contains (10 ∷ 5 ∷ rest) status
in_early rest status (inl is) = (0, omega arith, sym is)
in_early rest status (inr is) = (1, omega arith, sym is)

pub run_end : (n : ℕ) → Contains (0 ∷ 8 ∷ 9 ∷ []) n → IsRunEnd n
run_end n (zero, below, is) = inl (sym is)
run_end n (suc zero, below, is) = inr (inl (sym is))
run_end n (suc (suc zero), below, is) = inr (inr (sym is))
run_end n (suc (suc (suc i)), below, is) = absurd (omega (arith, below))

pub run_known : (status : ℕ) → Contains (0 ∷ 8 ∷ 9 ∷ []) status → IsKnown status
run_known status (zero, below, is) = (0, omega arith, is)
run_known status (suc zero, below, is) = (5, omega arith, is)
run_known status (suc (suc zero), below, is) = (6, omega arith, is)
run_known status (suc (suc (suc i)), below, is) = absurd (omega (arith, below))

-- what a test lets through goes by the places that pass
pub filter_map-agree : {X Y : Type 0} (f g : X → Option Y) (test : X → Bool) (xs : List X)
    → ((x : X) → test x ≡ true → f x ≡ g x) → filter_map f (filter test xs) ≡ filter_map g (filter test xs)
filter_map-agree f g test [] same = refl
filter_map-agree {X} {Y} f g test (x ∷ xs) same = by (test x) refl (filter_map-agree f g test xs same)
  where
    by : (b : Bool) → test x ≡ b → filter_map f (filter test xs) ≡ filter_map g (filter test xs)
        → filter_map f (filter test (x ∷ xs)) ≡ filter_map g (filter test (x ∷ xs))
    by true e rest = rw (e, same x e, rest) refl
    by false e rest = rw e rest

pub all-filter_map : {X Y : Type 0} (P : Y → Type 0) (f : X → Option Y) (xs : List X)
    → ((x : X) (y : Y) → f x ≡ Some y → P y) → All P (filter_map f xs)
all-filter_map {X} {Y} P f [] each = All-nil P
all-filter_map {X} {Y} P f (x ∷ xs) each = by (f x) refl (all-filter_map P f xs each)
  where
    by : (r : Option Y) → f x ≡ r → All P (filter_map f xs) → All P (filter_map f (x ∷ xs))
    by None e rest = rw e rest
    by (Some y) e rest = rw e (All-cons P y (filter_map f xs) (each x y e) rest)

-- what a test leaves out gives nothing
pub filter_map-filter : {X Y : Type 0} (f : X → Option Y) (test : X → Bool) (xs : List X)
    → ((x : X) → test x ≡ false → f x ≡ None) → filter_map f (filter test xs) ≡ filter_map f xs
filter_map-filter f test [] none = refl
filter_map-filter {X} {Y} f test (x ∷ xs) none = by (test x) refl (filter_map-filter f test xs none)
  where
    by : (b : Bool) → test x ≡ b → filter_map f (filter test xs) ≡ filter_map f xs
        → filter_map f (filter test (x ∷ xs)) ≡ filter_map f (x ∷ xs)
    by true e rest = rw (e, rest) refl
    by false e rest = rw (e, none x e) rest

-- whoever has a rank is a member
pub rank-member : (xs : List ℕ) (s rank : ℕ) → position (λ m. m == s) xs ≡ Some rank → Contains xs s
rank-member xs s rank at =
    let found = cond_some (nat_lt (position_or_len (λ m. m == s) xs) (length xs))
    (position_or_len (λ m. m == s) xs) rank at in
    let within : position_or_len (λ m. m == s) xs < length xs = grind (arith, found.0) in (
      position_or_len (λ m. m == s) xs,
      within,
      eqb-true (get_or xs (position_or_len (λ m. m == s) xs) s) s (passes_at_first (λ m. m == s) xs s within),
    )

pub of_map : {X Y : Type 0} (f : X → Y) (xs : List X) (x : X) → Contains xs x → Contains (map f xs) (f x)
of_map f xs x c = (c.0, omega (arith, c.1, length-map xs f), get_or-map f xs c.0 x (f x) c.1 ∙ ap f c.2)

-- nothing comes of a list where nothing comes of each element
pub nothing_of : {X Y : Type 0} (h : X → Option Y) (xs : List X) → All (λ x. h x ≡ None) xs → filter_map h xs ≡ []
nothing_of h [] none = refl
nothing_of h (x ∷ xs) none = rw (none 0 x (omega arith))
    (nothing_of h xs (λ k d l. none (suc k) d (omega (arith, l))))

pub in-nothing : {A : Type 0} (x : A) → Contains [] x → ⊥
in-nothing x c = absurd (omega (arith, c.1))

pub filter-in : {A : Type 0} (p : A → Bool) (xs : List A) (x : A) → Contains (filter p xs) x
    → Contains xs x × (p x ≡ true)
filter-in p xs x c = (
  All-contains (Contains xs) (filter p xs) x (All-filter p (Contains xs) xs (All-contains_itself xs)) c,
  All-contains (λ y. p y ≡ true) (filter p xs) x (filter_passes p xs) c,
)

pub in-head : {A : Type 0} (x : A) (xs : List A) → Contains (x ∷ xs) x
in-head x xs = (0, omega arith, refl)

pub in-tail : {A : Type 0} (x y : A) (xs : List A) → Contains xs y → Contains (x ∷ xs) y
in-tail x y xs c = Contains-append_right (x ∷ []) xs y c

pub flat_map-in : {A B : Type 0} (f : A → List B) (xs : List A) (y : B) → Contains (flat_map f xs) y
    → (x : A) × Contains xs x × Contains (f x) y
flat_map-in f [] y c = absurd (in-nothing y c)
flat_map-in {A} {B} f (z ∷ xs) y c = by (λ h. flat_map-in f xs y h) (Contains-append_cases (f z) (flat_map f xs) y c)
  where
    by : (Contains (flat_map f xs) y → (x : A) × Contains xs x × Contains (f x) y)
        → Contains (f z) y ⊎ Contains (flat_map f xs) y → (x : A) × Contains (z ∷ xs) x × Contains (f x) y
    by rest (inl h) = (z, in-head z xs, h)
    by rest (inr h) = let r = rest h in (r.0, in-tail z r.0 xs r.1, r.2)

pub in-split : {A : Type 0} (before behind : List A) (x : A) → Contains (before ++ x ∷ behind) x
in-split before behind x = Contains-append_right before (x ∷ behind) x (in-head x behind)

pub in-cases : {A : Type 0} (x y : A) (xs : List A) → Contains (x ∷ xs) y → (x ≡ y) ⊎ Contains xs y
in-cases {A} x y xs c = by (Contains-append_cases (x ∷ []) xs y c)
  where
    one : Contains (x ∷ []) y → x ≡ y
    one (zero, l, e) = e
    one (suc k, l, e) = absurd (omega (arith, l))

    by : Contains (x ∷ []) y ⊎ Contains xs y → (x ≡ y) ⊎ Contains xs y
    by (inl h) = inl (one h)
    by (inr h) = inr h

pub in-filter : {A : Type 0} (p : A → Bool) (xs : List A) (x : A) → p x ≡ true → Contains xs x
    → Contains (filter p xs) x
in-filter p [] x e c = absurd (in-nothing x c)
in-filter {A} p (y ∷ xs) x e c = by (λ h. in-filter p xs x e h) (p y) refl (in-cases y x xs c)
  where
    by : (Contains xs x → Contains (filter p xs) x) → (b : Bool) → p y ≡ b → (y ≡ x) ⊎ Contains xs x
        → Contains (if p y then y ∷ filter p xs else filter p xs) x
    by rest true f (inl same) = rw f (subst (λ z. Contains (y ∷ filter p xs) z) same (in-head y (filter p xs)))
    by rest true f (inr h) = rw f (in-tail y x (filter p xs) (rest h))
    by rest false f (inl same) = absurd (grind (arith, f, ap p same, e))
    by rest false f (inr h) = rw f (rest h)

pub in-flat_map : {A B : Type 0} (f : A → List B) (xs : List A) (x : A) (y : B) → Contains xs x → Contains (f x) y
    → Contains (flat_map f xs) y
in-flat_map f [] x y c d = absurd (in-nothing x c)
in-flat_map {A} {B} f (z ∷ xs) x y c d = by (λ h. in-flat_map f xs x y h d) (in-cases z x xs c)
  where
    by : (Contains xs x → Contains (flat_map f xs) y) → (z ≡ x) ⊎ Contains xs x → Contains (f z ++ flat_map f xs) y
    by rest (inl e) = Contains-append_left (f z) (flat_map f xs) y (subst (λ t. Contains (f t) y) (sym e) d)
    by rest (inr h) = Contains-append_right (f z) (flat_map f xs) y (rest h)

pub passes_none : {A : Type 0} (p : A → Bool) (xs : List A) → ((x : A) → Contains xs x → p x ≡ false) → filter p xs ≡ []
passes_none p [] none = refl
passes_none p (x ∷ xs) none = rw (none x (in-head x xs), passes_none p xs (λ y c. none y (in-tail x y xs c))) refl

pub passes_all : {A : Type 0} (p : A → Bool) (xs : List A) → ((x : A) → Contains xs x → p x ≡ true) → filter p xs ≡ xs
passes_all p [] all = refl
passes_all p (x ∷ xs) all = rw (all x (in-head x xs), passes_all p xs (λ y c. all y (in-tail x y xs c))) refl
