-- Facts of options and results.
use Rattle.std.specs.{Fmt.decimal, List.{find, range_with_len}, declared.alloc.AllocError.AllocError}
use Rattle.std.specs.Option.{ok_or, option_or}
use Rattle.std.specs.Prelude.{option_and_then, is_some, unwrap_or, IfSome, ◌↔◌, IsTrue, IfOk, IfNone, option_map, OnOk, nat_lt}
use Rattle.std.proofs.Common.{◌≡◌, Option, Some, None, refl, true, Err, subst, Result, Ok, OnErr, Bool, ℕ, ◌⊎◌, inr, zero, suc, ◌&&◌, ◌<◌, inl, arith, [], ◌+◌, ◌∷◌, ap, ◌∙◌, false, sym, ◌-◌, ◌≤◌, IsSome, below_more, not, ◌*◌, ◌/◌, ◌%◌, ◌||◌, Contains, IsSomeAnd, ◌≢◌, ◌==◌}
use Rattle.std.proofs.{Math.Nat.div-add-mod, lemmas.{Bool.Decides.nat_tests, Option.{none-some, same_Some}}}
use Rattle.std.proofs.lemmas.Bool.{and_parts, cases_lt, cases_eq}
use Rattle.dr_entry.proofs.{Bits.Marks, BoolFacts.phase_few, ListFacts.is_free}
use Rattle.dr_entry.proofs.NumberFacts.{total, unequal}

-- what holds of all that a second step gives
pub then_some : {A B : Type 0} (P : B → Type 0) (f : A → Option B) (o : Option A) (y : B)
    → ((x : A) → o ≡ Some x → f x ≡ Some y → P y) → option_and_then f o ≡ Some y → P y
then_some P f None y holds is = absurd cc
then_some P f (Some x) y holds is = holds x refl is

-- what holds of a value that is there
pub there : {A : Type 0} (P : A → Type 0) (o : Option A) (d : A) → ((x : A) → o ≡ Some x → P x)
    → is_some o ≡ true → P (unwrap_or o d)
there P None d holds is = absurd cc
there P (Some x) d holds is = holds x refl

-- what stands in for nothing
pub ok_or_err : {A E : Type 0} (o : Option A) (e named : E) → ok_or o e ≡ Err named → (o ≡ None) × (e ≡ named)
ok_or_err None e named is = (refl, cc)
ok_or_err (Some x) e named is = absurd cc

-- what holds of a value that is there holds of this one
pub if_some_at : {A : Type 0} (P : A → Type 0) (o : Option A) (x : A) → IfSome o P → o ≡ Some x → P x
if_some_at P None x if is = absurd cc
if_some_at P (Some y) x if is = let same : y ≡ x = cc in subst P same if

-- what is known anyway
pub on_err_anyway : {T E P : Type 0} (r : Result T E) → P → OnErr r P
on_err_anyway (Ok value) p = tt
on_err_anyway (Err fault) p = p

-- one test stands for another
pub iff_ok : (E A B : Type 0) (r : Result Bool E) → (A → B) → (B → A) → IfOk r (λ yes. IsTrue yes ↔ A)
    → IfOk r (λ yes. IsTrue yes ↔ B)
iff_ok E A B (Ok r) to from is = (λ t. to (is.0 t), λ b. is.1 (from b))
iff_ok E A B (Err e) to from is = is

-- what is kept where nothing was found
pub none_keeps : (P Q : Type 0) (r : Option ℕ) → P → IfNone r Q → IfNone r (P × Q)
none_keeps P Q None p q = (p, q)
none_keeps P Q (Some line) p q = q

-- what is broken where something was found
pub some_breaks : (P : Type 0) (B Q : ℕ → Type 0) (r : Option ℕ) → P → IfSome r Q
    → IfSome r (λ line. B line ⊎ (P × Q line))
some_breaks P B Q None p q = q
some_breaks P B Q (Some line) p q = inr (p, q)

-- what holds of each value that an option has
pub if_some : {A : Type 0} (r : Option A) (P : A → Type 0) → ((x : A) → r ≡ Some x → P x) → IfSome r P
if_some None P each = tt
if_some (Some x) P each = each x refl

-- the first n numbers have no line feed
abbrev are_free : ℕ → Bool
are_free zero = true
are_free (suc n) = is_free (decimal n) && are_free n

pub free_below : (n d : ℕ) → are_free n ≡ true → d < n → is_free (decimal d) ≡ true
free_below zero d h below = absurd (omega (arith, below))
free_below (suc n) d h below =
    let parts = and_parts (is_free (decimal n)) (are_free n) h in
    elim (cases_lt d n) [
      | inl less ↦ free_below n d parts.1 less
      | inr top ↦ let e : d ≡ n = omega (arith, below, top) in rw e parts.0
    ]

pub some_tested : {A : Type 0} (o : Option A) (P : Type 0) → (IsSome o ↔ P) → IsTrue (is_some o) ↔ P
some_tested None P t = t
some_tested (Some x) P t = t

pub one_unmarked : (is : ℕ → Type 0) (mask i : ℕ) → (is i → ⊥) → Marks is mask i → Marks is mask (i + 1)
one_unmarked is mask i missing before = record {
  set = below_more _ _ before.set
      (let e = before.clear i (omega arith) in (λ h. absurd (omega (arith, h, e)), λ h. absurd (missing h)));
  clear = λ j h. before.clear j (omega arith);
}

-- a search from a on, over n numbers
pub found_from : (test : ℕ → Bool) (a n i : ℕ) → a ≤ i → i < a + n → test i ≡ true
    → ((k : ℕ) → k < i → test k ≡ false) → find test (range_with_len a n) ≡ Some i
found_from test a zero i low high passes least = absurd (omega arith)
found_from test a (suc n) i low high passes least = elim (cases_eq a i) [
  | inl e ↦ let here : test a ≡ true = cc in rw here (ap Some e)
  | inr d ↦ let past : test a ≡ false = least a (omega arith) in
      rw past (found_from test (a + 1) n i (omega arith) (omega arith) passes least)
]

pub missing_from : (test : ℕ → Bool) (a n : ℕ) → ((k : ℕ) → k < a + n → test k ≡ false)
    → find test (range_with_len a n) ≡ None
missing_from test a zero none = refl
missing_from test a (suc n) none = let past : test a ≡ false = none a (omega arith) in
    rw past (missing_from test (a + 1) n (λ k l. none k (omega arith)))

-- a number below the next of another is below that one, or is it
pub below_or_last : (i n : ℕ) → i < n + 1 → (i < n) ⊎ (i ≡ n)
below_or_last i n h = grind arith

pub both : (a b : Bool) → (a && not b) ≡ true → (a ≡ true) × (b ≡ false)
both true true e = absurd (cc e)
both true false e = (refl, refl)
both false b e = absurd (cc e)

-- nothing is none and some
pub none_or_some : {X : Type 0} (o : Option X) (x : X) → o ≡ None → o ≡ Some x → ⊥
none_or_some o x none some = cc (none, some)

-- what is not there is none
pub no_value : {A : Type 0} (o : Option A) → is_some o ≡ false → o ≡ None
no_value None e = refl
no_value (Some x) e = absurd (cc e)

pub IfNone_then : {X : Type 0} (r : Option X) (P Q : Type 0) → IfNone r P → (P → Q) → IfNone r Q
IfNone_then None P Q p f = f p
IfNone_then (Some x) P Q p f = tt

-- what is there is something
pub some_there : {A : Type 0} (o : Option A) → is_some o ≡ true → (x : A) × (o ≡ Some x)
some_there None e = absurd (cc)
some_there (Some x) e = (x, refl)

-- what is so of a letter that was read is so of the one that is there
pub some_read : {A B : Type 0} (f : A → B) (P : B → Type 0) (o : Option A) (q : Option B) → option_map f o ≡ q
    → IfSome q P → IfSome o (λ x. P (f x))
some_read f P None q e h = tt
some_read f P (Some x) q e h = subst (λ o. IfSome o P) (sym e) h

-- what follows where there was memory
pub on_ok : (A B : Type 0) (result : Result (Unit {0}) AllocError) → (A → B) → OnOk result A → OnOk result B
on_ok A B (Ok u) so ok = so ok
on_ok A B (Err e) so ok = tt

-- where one of two is there both are
pub both_there : {X Y : Type 0} (o : Option X) (p : Option Y) (x : X) → is_some o ≡ is_some p → o ≡ Some x
    → (y : Y) × (p ≡ Some y)
both_there o None x same at = absurd (cc (same, ap (λ q. is_some q) at))
both_there o (Some y) x same at = (y, refl)

pub neither_there : {X Y : Type 0} (o : Option X) (p : Option Y) → is_some o ≡ is_some p → o ≡ None → p ≡ None
neither_there o None same at = refl
neither_there o (Some y) same at = absurd (cc (same, ap (λ q. is_some q) at))

-- what holds of the value of an answer
pub ok_at : {X E : Type 0} (P : X → Type 0) (result : Result X E) (x : X) → result ≡ Ok x → IfOk result P → P x
ok_at P result x is so = subst (λ r. IfOk r P) is so

-- and what holds where there is none
pub err_at : {X E : Type 0} (P : Type 0) (result : Result X E) (error : E) → result ≡ Err error → OnErr result P → P
err_at P result error is so = subst (λ r. OnErr r P) is so

pub some_map : {X Y : Type 0} (f : X → Y) (o : Option X) → is_some (option_map f o) ≡ is_some o
some_map f None = refl
some_map f (Some x) = refl

-- two members of a shard with the same number are one
pub same_number : (shards a b : ℕ) → a % shards ≡ b % shards → a / shards ≡ b / shards → a ≡ b
same_number shards a b rest whole = sym (div-add-mod a shards) ∙ ap (λ q. shards * q + a % shards) whole
    ∙ ap (λ r. shards * (b / shards) + r) rest ∙ div-add-mod b shards

-- of two answers there is one where there is either
pub some_or : (a b : Option ℕ) → is_some (option_or a b) ≡ (is_some a || is_some b)
some_or None b = refl
some_or (Some x) b = refl

pub total_few : (named now : ℕ → Bool) (n : ℕ) → total named now n ≤ 2 * n
unfolding total
total_few named now zero = omega arith
total_few named now (suc n) = omega (arith, total_few named now n, phase_few (named n) (now n))

-- the next line is due so much later, and this one was said
pub next_due : {Said : Type 0} (due : Option ℕ) (now told : ℕ) → IfSome due (λ at. at ≡ now + 1000)
    → now ≡ told → Said → IfSome due (λ at. (at ≡ told + 1000) × Said)
next_due None now told is same said = tt
next_due (Some at) now told is same said = (omega (arith, is, same), said)

-- the status of each call is one of these
abbrev pub IsKnown : ℕ → Type 0
IsKnown status = Contains (0 ∷ 2 ∷ 3 ∷ 4 ∷ 5 ∷ 8 ∷ 9 ∷ 10 ∷ []) status

pub wanting_known : (status : ℕ) → status ≡ 10 → IsKnown status
wanting_known status is = (7, omega arith, sym is)

-- what holds of the value in an option
pub IsSomeAnd-at : {X : Type 0} (r : Option X) (P : X → Type 0) (x : X) → r ≡ Some x → IsSomeAnd r P → P x
IsSomeAnd-at r P x e h = subst (λ z. IsSomeAnd z P) e h

-- the parts of a pair that was read in two steps
pub pair-parts : {A B : Type 0} (f : A → Option B) (r : Option A) (a : A) (b : B)
    → option_and_then {U = A × B} (λ s. option_map (λ x. (s, x)) (f s)) r ≡ Some (a, b)
    → (r ≡ Some a) × (f a ≡ Some b)
pair-parts f None a b e = absurd (none-some (a, b) e)
pair-parts {A} {B} f (Some c) a b e = by (f c) refl e
  where
    by : (z : Option B) → f c ≡ z → option_map {U = A × B} (λ x. (c, x)) z ≡ Some (a, b)
        → (Some c ≡ Some a) × (f a ≡ Some b)
    by None is g = absurd (none-some (a, b) g)
    by (Some y) is g =
        let same : ◌≡◌ {A = A × B} (c, y) (a, b) = same_Some (c, y) (a, b) g in
        let first : c ≡ a = ap (λ t. t.0) same in
        let second : y ≡ b = ap (λ t. t.1) same in (ap Some first, ap f (sym first) ∙ (is ∙ ap Some second))

-- what an option holds
pub value_of : {X : Type 0} (r : Option X) → IsSome r → (x : X) × (r ≡ Some x)
value_of None h = absurd (cc)
value_of (Some x) h = (x, refl)

-- what follows from what holds of a value that is there holds of it too
pub IsSomeAnd-more : {X : Type 0} (r : Option X) (P Q : X → Type 0) → ((x : X) → P x → Q x)
    → IsSomeAnd r P → IsSomeAnd r Q
IsSomeAnd-more None P Q more h = absurd h
IsSomeAnd-more (Some x) P Q more h = more x h

-- a place below one more
pub last_or_below : (p q : ℕ) → q < suc p → (q < p) ⊎ (q ≡ p)
last_or_below p q l = grind arith

-- what an option has
pub some_of : {X : Type 0} (P : X → Type 0) (r : Option X) → IsSomeAnd r P → (x : X) × (r ≡ Some x) × P x
some_of P None h = absurd h
some_of P (Some x) h = (x, refl, h)

-- a number that is not below another
pub not_less : (a b : ℕ) → (not (nat_lt a b) ≡ true) ↔ (¬ (a < b))
not_less a b = (
  λ e less. absurd (grind (arith, nat_tests, e, less)),
  λ no. elim (cases_lt a b) [ inl less ↦ absurd (no less) | inr more ↦ grind (arith, nat_tests, more) ],
)

pub none_test : {A : Type 0} (o : Option A) → (not (is_some o) ≡ true) ↔ (o ≡ None)
none_test None = (λ e. refl, λ e. refl)
none_test (Some x) = (λ e. absurd (cc), λ e. absurd (cc))

pub some_same : {A : Type 0} (x y : A) → Some x ≡ Some y → x ≡ y
some_same x y e = cc e

pub given : {A : Type 0} (j t : Bool) (o : Option A) → j ≡ false → t ≡ false → ((j || t) || is_some o) ≡ true → A
given true t o plain other e = absurd (cc)
given false true o plain other e = absurd (cc)
given false false (Some x) plain other e = x
given false false None plain other e = absurd (cc)

-- the columns differ, by their test
unfoldable pub apart_by : (c d : ℕ) (b : Bool) → (c == d) ≡ b → Option (d ≢ c)
apart_by c d true e = None
apart_by c d false e = Some (λ same. unequal c d same e)

unfoldable pub differs : (c d : ℕ) → Option (d ≢ c)
differs c d = apart_by c d (c == d) refl
