-- Facts of lists: their lengths, fronts and rests, folds and maps.
use Rattle.std.{specs.{Bool.{MatchBool, then_some}, Cmp.Lexicographic.slice_cmp}, proofs.Math.ListN.get_or-append}
use Rattle.std.{specs.Cmp.{tied_itself, nat_cmp_total, nat_cmp_is, ranked}, proofs.lemmas.Slice.Eq.bytes_eq-Decides}
use Rattle.std.specs.Fmt.{decimal}
use Rattle.std.specs.List.{filter_map, list_any, cons_option, starts_with, flat_map, enumerate_from, concat, AllWithin, HoldsAt, list_all, AllZip, join_by, position_or_len, range_with_len, position_from}
use Rattle.std.{specs.Ordering.{nat_cmp, is_le, ordering_then, is_eq}, proofs.lemmas.List.Elements.filter_map-append}
use Rattle.std.specs.{Prelude.{◌||◌, is_some, nat_eq, Vec, IfSome, IsTrue, unwrap_or, ⊤}, declared.cmp.Ordering.Ordering}
use Rattle.std.{specs.declared.alloc.Global.Global, proofs.lemmas.{Fmt.decimal_injective, List.Concat.concat_is}}
use Rattle.std.{specs.declared.cmp.Ordering.TheVariants.{Less, Equal, Greater}, proofs.lemmas.Bool.Decides.nat_tests}
use Rattle.std.proofs.Common.{ℕ, ◌≤◌, max, List, [], ◌∷◌, fold, arith, le_refl, ◌≡◌, ◌+◌, ◌<◌, length, get_or, drop, ap, ◌∙◌, ◌-◌, take, length-drop, ◌++◌, map, Option, Some, refl, Bool, suc, None, false, true, eqb, sym, ◌&&◌, set, zero, replicate, inl, inr, nat_lt, add-zero, zero-add, append_assoc, Result, Ok, Err, OnOk, is_ok, if◌then◌else◌, min, cond, ◌==◌, not, ◌⊎◌, subst, slice_get, codes, length-append, take_at, drop_at, ◌^◌, below_more, length-take, le_trans, add-one, position, ◌≢◌, true≢false, bytes_eq, option_to_list, ◌*◌, sum_by}
use Rattle.std.proofs.Math.Nat.{min-le_left, mul_comm}
use Rattle.std.proofs.lemmas.List.FromFn.{get_or-map-range_with_len, length-map-range_with_len, map-range_with_len_more}
use Rattle.std.proofs.{Math.Seq.{take-append_seam, get_or-append_seam}, lemmas.Iterator.Adapters.position_from-zero}
use Rattle.std.proofs.lemmas.Bool.{eqb-true, eq-eqb, cases_lt, and_from, and_parts, false≢true, ne_eqb, cases_Bool, cases_eq}
use Rattle.std.proofs.lemmas.{Grind.{flat_map-append, same_number_lists}, List.Sums.{fold-append, position_or_len_is}}
use Rattle.std.proofs.lemmas.List.{drop_more, take_all, take_more, map-append, get_or-replicate, get_or_past, length-replicate, take-append-drop, length-take-le, append-nil, drop_all, get_or-set_other, get_or-set_same, get_or-drop, get_or-map, get_or-take, length-map}
use Rattle.std.proofs.lemmas.List.Folds.{concat-append, list_all-append, list_all_at, list_any_at, list_any_none, sum_by-replicate}
use Rattle.std.proofs.lemmas.Option.{slice_get_past, unwrap_or-slice_get, same_Some, slice_get-get_or}
use Rattle.dr_entry.proofs.{BoolFacts.both_true, Fields.IsBytes, ListParts.other_decimal, NumberFacts.moved}

pub fold_max : (xs : List ℕ) (a : ℕ) → a ≤ fold max a xs
fold_max [] a = le_refl a
fold_max (x ∷ xs) a = let h : max a x ≤ fold max (max a x) xs = fold_max xs (max a x) in omega arith

-- the gate and what stands behind it
pub gate_first : (bytes : List ℕ) (at gate : ℕ) → at < length bytes → get_or bytes at 0 ≡ gate
    → drop at bytes ≡ gate ∷ drop (at + 1) bytes
gate_first bytes at gate inside is = drop_more bytes at 0 inside ∙ ap (λ (g : ℕ). g ∷ drop (at + 1) bytes) is

-- the bytes from a place on, as the code takes them
pub rest_is : (bytes : List ℕ) (k : ℕ) → take (length bytes - k) (drop k bytes) ≡ drop k bytes
rest_is bytes k = take_all (length bytes - k) (drop k bytes) (omega (arith, length-drop k bytes))

-- one more element gives something
pub filter_map_more : {A B C : Type 0} (h : B → Option C) (g : A → B) (xs : List A) (i : ℕ) (x : A)
    (y : C) → i < length xs → x ≡ get_or xs i x → h (g x) ≡ Some y
    → filter_map h (map g (take (i + 1) xs)) ≡ filter_map h (map g (take i xs)) ++ y ∷ []
filter_map_more h g xs i x y inside is here =
    rw (take_more xs i x inside, ← is, map-append, filter_map-append, here) refl

-- one more element of two maps
pub map_more : {A B C : Type 0} (h : B → C) (g : A → B) (xs : List A) (i : ℕ) (x : A) → i
    < length xs → x ≡ get_or xs i x → map h (map g (take (i + 1) xs)) ≡ map h (map g (take i xs)) ++ h (g x) ∷ []
map_more h g xs i x inside is = rw (take_more xs i x inside, ← is, map-append, map-append) refl

-- some image passes a test exactly where some element does so by its image
pub list_any_map : {A B : Type 0} (test : B → Bool) (f : A → B) (xs : List A)
    → list_any test (map f xs) ≡ list_any (λ x. test (f x)) xs
list_any_map test f [] = refl
list_any_map test f (x ∷ xs) = ap (λ rest. test (f x) || rest) (list_any_map test f xs)

length_cons_option : {A : Type 0} (o : Option A) (xs : List A) → length (cons_option o xs) ≤ suc (length xs)
length_cons_option None xs = omega arith
length_cons_option (Some x) xs = omega arith

pub length_filter_map : {A B : Type 0} (f : A → Option B) (xs : List A) → length (filter_map f xs) ≤ length xs
length_filter_map f [] = omega arith
length_filter_map f (x ∷ xs) = let rest = length_filter_map f xs in
    let one = length_cons_option (f x) (filter_map f xs) in omega arith

-- the order of keys
abbrev pub by_bytes : List ℕ → List ℕ → Ordering
by_bytes = slice_cmp nat_cmp

-- a key that begins with a prefix is not below it
pub begins-le : (p k : List ℕ) → starts_with nat_eq k p ≡ true → is_le (by_bytes p k) ≡ true
begins-le [] [] e = refl
begins-le [] (x ∷ k) e = refl
begins-le (y ∷ p) [] e = absurd (cc e)
begins-le (y ∷ p) (x ∷ k) e =
    let parts = both_true (eqb y x) (starts_with nat_eq k p) e in
    ap (λ r. is_le (ordering_then r (by_bytes p k))) (ap (nat_cmp y) (sym (eqb-true y x parts.0))
    ∙ tied_itself nat_cmp_total y) ∙ begins-le p k parts.1

-- a key between a prefix and one that begins with it begins with it too
pub begins-between : (p k l : List ℕ) → is_le (by_bytes p k) ≡ true → by_bytes k l ≡ Less
    → starts_with nat_eq l p ≡ true → starts_with nat_eq k p ≡ true
begins-between [] k l low up e = refl
begins-between (y ∷ p) [] l low up e = absurd (cc low)
begins-between (y ∷ p) (x ∷ k) [] low up e = absurd (cc e)
begins-between (y ∷ p) (x ∷ k) (z ∷ l) low up e =
    let parts = both_true (eqb y z) (starts_with nat_eq l p) e in
    let same : y ≡ z = eqb-true y z parts.0 in
    elim (nat_cmp y x) as (λ r. nat_cmp y x ≡ r → is_le (ordering_then r (by_bytes p k)) ≡ true
    → (eqb y x && starts_with nat_eq k p) ≡ true) [
      | Less ↦ λ c _.
          let below : y < x = ranked y x Less (sym c) in
          absurd (cc (ap (λ r. ordering_then r (by_bytes k l)) (nat_cmp_is x z Greater (omega arith)) ∙ up))
      | Equal ↦ λ c at.
          let is : y ≡ x = ranked y x Equal (sym c) in
          let rest = ap (λ r. ordering_then r (by_bytes k l)) (nat_cmp_is x z Equal (sym is ∙ same)) ∙ up in
          ap (λ b. b && starts_with nat_eq k p) (eq-eqb y x is) ∙ begins-between p k l at rest parts.1
      | Greater ↦ λ c at. absurd (cc at)
    ] refl low

pub below_not : (p k : List ℕ) → is_le (by_bytes p k) ≡ false → starts_with nat_eq k p ≡ false
below_not p k below = elim (starts_with nat_eq k p) as (λ b. starts_with nat_eq k p ≡ b → b ≡ false) [
  | true ↦ λ e. absurd (cc (sym (begins-le p k e) ∙ below))
  | false ↦ λ _. refl
] refl

-- the test of a key
abbrev pub is_key : List ℕ → Vec ℕ Global → Bool
is_key q k = is_eq (by_bytes q k.items)

-- a log that is not of the newer format has more than nine bytes, so that it is not taken for a new one
abbrev pub IsWhole : Bool → List ℕ → Type 0
IsWhole newer bytes = newer ≡ false → 9 < length bytes

pub set_over : (rows : List (List ℕ)) (i : ℕ) (x y : List ℕ) → set (set rows i x) i y ≡ set rows i y
set_over [] i x y = refl
set_over (r ∷ rows) zero x y = refl
set_over (r ∷ rows) (suc i) x y = ap (λ (rest : List (List ℕ)). r ∷ rest) (set_over rows i x y)

-- a copy stands at each place of a list of copies, and past its end where it is the default
pub copy_at : {X : Type 0} (n : ℕ) (x : X) (i : ℕ) → get_or (replicate n x) i x ≡ x
copy_at n x i = elim (cases_lt i n) [
  | inl within ↦ get_or-replicate n i x x within
  | inr past ↦ get_or_past (replicate n x) i x (omega (arith, length-replicate n x))
]

-- whether each of the bytes is below 128
abbrev pub all_ascii : List ℕ → Bool
all_ascii [] = true
all_ascii (b ∷ bs) = nat_lt b 128 && all_ascii bs

-- the text of a list is that of its first elements, followed by that of the rest
pub text_parts : {A B : Type 0} (f : A → List B) (xs : List A) (n : ℕ)
    → flat_map f xs ≡ flat_map f (take n xs) ++ flat_map f (drop n xs)
text_parts f xs n = ap (flat_map f) (sym (take-append-drop n xs)) ∙ flat_map-append f (take n xs) (drop n xs)

-- the text of the first elements begins the text of all
pub first_text : {A B : Type 0} (f : A → List B) (xs : List A) (n : ℕ)
    → take (length (flat_map f (take n xs))) (flat_map f xs) ≡ flat_map f (take n xs)
first_text f xs n = ap (take (length (flat_map f (take n xs)))) (text_parts f xs n)
    ∙ take-append_seam (flat_map f (take n xs)) (flat_map f (drop n xs))

-- the numbers go on behind a list
numbered_append : {A : Type 0} (n : ℕ) (xs ys : List A)
    → enumerate_from n (xs ++ ys) ≡ enumerate_from n xs ++ enumerate_from (n + length xs) ys
numbered_append n [] ys = simp add-zero
numbered_append n (x ∷ xs) ys =
    let e : (n + 1) + length xs ≡ n + length (x ∷ xs) = omega arith in
    let on = ap (λ k. enumerate_from (n + 1) xs ++ enumerate_from k ys) e in
    ap (λ zs. (n, x) ∷ zs) (numbered_append (n + 1) xs ys ∙ on)

-- a text that goes on by the text of one numbered element more
pub numbered_texts_more : {A B : Type 0} (f : ℕ × A → List B) (xs : List A) (i : ℕ) (x : A) (old now new : List B)
    → i < length xs → x ≡ get_or xs i x → now ≡ old ++ flat_map f (enumerate_from 0 (take i xs))
    → new ≡ now ++ f (i, x) → new ≡ old ++ flat_map f (enumerate_from 0 (take (i + 1) xs))
numbered_texts_more f xs i x old now new below is before after = rw (after, before, more, append_assoc) refl
  where
    len : length (take i xs) ≡ i
    len = length-take-le i xs (omega arith)

    numbers : enumerate_from 0 (take i xs ++ x ∷ []) ≡ enumerate_from 0 (take i xs) ++ (i, x) ∷ []
    numbers = numbered_append 0 (take i xs) (x ∷ []) ∙ rw (len, zero-add) refl

    more : flat_map f (enumerate_from 0 (take (i + 1) xs)) ≡ flat_map f (enumerate_from 0 (take i xs)) ++ f (i, x)
    more = rw (take_more xs i x below, ← is, numbers, flat_map-append, append-nil) refl

-- the text of one element more
pub text_more : {A B : Type 0} (f : A → List B) (xs : List A) (i : ℕ) (x : A) → i < length xs → x ≡ get_or xs i x
    → flat_map f (take (i + 1) xs) ≡ flat_map f (take i xs) ++ f x
text_more f xs i x below is = rw (take_more xs i x below, flat_map-append, ← is, append-nil) refl

-- one text more
pub concat_more : (xs : List (List ℕ)) (i : ℕ) (x : List ℕ) → i < length xs → x ≡ get_or xs i x
    → concat (take (i + 1) xs) ≡ concat (take i xs) ++ x
concat_more xs i x below is = concat_is (take (i + 1) xs) ∙ text_more (λ x. x) xs i x below is
    ∙ ap (λ l. l ++ x) (sym (concat_is (take i xs)))

-- a text behind the others
pub concat_behind : (old new : List (List ℕ)) (whole text line : List ℕ)
    → new ≡ old ++ text ∷ [] → concat old ≡ whole → text ≡ line → concat new ≡ whole ++ line
concat_behind old new whole text line added before is = rw (added, concat-append, before, is, append-nil) refl

-- a line and lines, and then more lines
pub lines_more : (old now new line first rest lines : List ℕ)
    → now ≡ old ++ (line ++ first) → new ≡ now ++ (rest ++ []) → first ++ rest ≡ lines → new ≡ old ++ (line ++ lines)
lines_more old now new line first rest lines begun after whole =
    rw (after, begun, ← whole, append-nil, append_assoc, append_assoc) refl

pub pushed_on : {T E : Type 0} (r : Result T E) (old a new p q : List ℕ) → a ≡ old ++ p
    → OnOk r (new ≡ a ++ q) → OnOk r (new ≡ old ++ (p ++ q))
pushed_on (Ok value) old a new p q first last = last ∙ ap (λ l. l ++ q) first ∙ append_assoc old p q
pushed_on (Err fault) old a new p q first last = tt

pub pushed_thrice : {T E : Type 0} (r : Result T E) (old a b new p q s : List ℕ) → a ≡ old ++ p → b ≡ a ++ q
    → OnOk r (new ≡ b ++ s) → OnOk r (new ≡ old ++ (p ++ (q ++ s)))
pushed_thrice r old a b new p q s first second last =
    pushed_on r old a new p (q ++ s) first (pushed_on r a b new q s second last)

-- the last piece is a text that is pushed
pub if_pushed : {T E : Type 0} (r : Result T E) (b new s : List ℕ) → new ≡ (if is_ok r then b ++ s else b)
    → OnOk r (new ≡ b ++ s)
if_pushed (Ok value) b new s last = last
if_pushed (Err fault) b new s last = tt

-- what a search for an element has found
pub found_any : (p : ℕ → Bool) (xs : List ℕ) (r : Bool) → MatchBool r ((k : ℕ) × (k < length xs)
    × HoldsAt (λ x. p x ≡ true) xs k) (AllWithin (λ x. p x ≡ false) xs 0 (length xs)) → r ≡ list_any p xs
found_any p xs true (k, below, at) = sym (list_any_at p xs k 0 below (at 0))
found_any p xs false none = sym (list_any_none p xs (λ k d below. none k d (omega arith) below))

-- three texts pushed one after the other
pub three_pushed : {T E : Type 0} (r : Result T E) (old a b new p q s : List ℕ) → a ≡ old ++ p → b ≡ a ++ q
    → new ≡ (if is_ok r then b ++ s else b) → OnOk r (new ≡ old ++ (p ++ (q ++ s)))
three_pushed (Ok value) old a b new p q s first second third =
    rw (third, second, first, append_assoc, append_assoc) refl
three_pushed (Err fault) old a b new p q s first second third = tt

-- what does not change where an element does
pub unmoved_set : {X Y : Type 0} (f : X → Y) (xs : List X) (m : ℕ) (y d : X) → m < length xs
    → f y ≡ f (get_or xs m d) → map f (set xs m y) ≡ map f xs
unmoved_set f [] m y d l same = absurd (omega (arith, l))
unmoved_set f (x ∷ xs) zero y d l same = ap (λ z. z ∷ map f xs) same
unmoved_set f (x ∷ xs) (suc m) y d l same = ap (λ zs. f x ∷ zs) (unmoved_set f xs m y d (omega (arith, l)) same)

pub one_min : (f : ℕ → ℕ) (a n : ℕ) (ms : List ℕ) (there : Bool)
    → fold min a (map f (ms ++ (if there then n ∷ [] else [])))
    ≡ (if there then min (fold min a (map f ms)) (f n) else fold min a (map f ms))
one_min f a n ms true = ap (fold min a) (map-append f ms (n ∷ [])) ∙ fold-append min a (map f ms) (f n ∷ [])
one_min f a n ms false = ap (λ l. fold min a (map f l)) (append-nil ms)

pub one_max : (f : ℕ → ℕ) (a n : ℕ) (ms : List ℕ) (there : Bool)
    → fold max a (map f (ms ++ (if there then n ∷ [] else [])))
    ≡ (if there then max (fold max a (map f ms)) (f n) else fold max a (map f ms))
one_max f a n ms true = ap (fold max a) (map-append f ms (n ∷ [])) ∙ fold-append max a (map f ms) (f n ∷ [])
one_max f a n ms false = ap (λ l. fold max a (map f l)) (append-nil ms)

pub one_passes : (p : ℕ → Bool) (there : Bool) (n : ℕ) → (there ≡ true → p n ≡ true)
    → list_all p (cond there (n ∷ []) []) ≡ true
one_passes p true n each = and_from (p n) true (each refl) refl
one_passes p false n each = refl

pub passes_one : (p : ℕ → Bool) (there : Bool) (n : ℕ) → list_all p (cond there (n ∷ []) []) ≡ true
    → there ≡ true → p n ≡ true
passes_one p true n all e = (and_parts (p n) true all).0
passes_one p false n all e = absurd (cc)

pub no_members : {A : Type 0} (xs : List A) → length xs ≡ 0 → xs ≡ []
no_members [] none = refl
no_members (x ∷ xs) none = absurd (omega (arith, none))

pub zip_long : {A B : Type 0} (R : A → B → Type 0) (xs : List A) (ys : List B) → AllZip R xs ys
    → length xs ≡ length ys
zip_long R [] [] zip = refl
zip_long R [] (y ∷ ys) zip = absurd zip
zip_long R (x ∷ xs) [] zip = absurd zip
zip_long R (x ∷ xs) (y ∷ ys) zip = omega (arith, zip_long R xs ys zip.1)

-- no line feed is among the bytes
abbrev pub is_free : List ℕ → Bool
is_free [] = true
is_free (byte ∷ bytes) = not (byte == 10) && is_free bytes

-- one stands at their end alone
abbrev pub IsFed : List ℕ → Type 0
IsFed line = (body : List ℕ) × (is_free body ≡ true) × (line ≡ body ++ 10 ∷ [])

abbrev pub AreFed : List (List ℕ) → Type 0
AreFed [] = Unit {0}
AreFed (line ∷ lines) = IsFed line × AreFed lines

pub fed_both : (xs ys : List (List ℕ)) → AreFed xs → AreFed ys → AreFed (xs ++ ys)
fed_both [] ys one other = other
fed_both (x ∷ xs) ys one other = (one.0, fed_both xs ys one.1 other)

pub zip_push : {A B : Type 0} (R : A → B → Type 0) (xs : List A) (ys : List B) (x : A) (y : B) → AllZip R xs ys
    → R x y → AllZip R (xs ++ x ∷ []) (ys ++ y ∷ [])
zip_push R [] [] x y zip one = (one, tt)
zip_push R [] (w ∷ ys) x y zip one = absurd zip
zip_push R (z ∷ xs) [] x y zip one = absurd zip
zip_push R (z ∷ xs) (w ∷ ys) x y zip one = (zip.0, zip_push R xs ys x y zip.1 one)

-- one stands at their end
abbrev pub EndsFed : List ℕ → Type 0
EndsFed line = (body : List ℕ) × (line ≡ body ++ 10 ∷ [])

-- each line of a text has no line feed but at its end
abbrev pub IsPart : List ℕ → Type 0
IsPart line = IsFed line ⊎ (is_free line ≡ true)

-- what has one at its end is a whole line
free_append : (xs ys : List ℕ) → is_free (xs ++ ys) ≡ true → is_free ys ≡ true
free_append [] ys free = free
free_append (x ∷ xs) ys free =
    let parts = and_parts (not (x == 10)) (is_free (xs ++ ys)) free in free_append xs ys parts.1

pub whole_part : (line : List ℕ) → IsPart line → EndsFed line → IsFed line
whole_part line (inl fed) ends = fed
whole_part line (inr free) ends = absurd (false≢true (free_append ends.0 (10 ∷ []) (ap is_free (sym ends.1) ∙ free)))

-- free bytes behind free bytes are free
pub free_both : (xs ys : List ℕ) → is_free xs ≡ true → is_free ys ≡ true → is_free (xs ++ ys) ≡ true
free_both [] ys one other = other
free_both (x ∷ xs) ys one other =
    let parts = and_parts (not (x == 10)) (is_free xs) one in rw (parts.0, free_both xs ys parts.1 other) refl

-- bytes in front of bytes that end so
pub ends_behind : (xs ys : List ℕ) → EndsFed ys → EndsFed (xs ++ ys)
ends_behind xs ys ends = (xs ++ ends.0, ap (λ zs. xs ++ zs) ends.1 ∙ sym (append_assoc xs ends.0 (10 ∷ [])))

-- one byte more that is none
pub free_more : (bytes : List ℕ) (i : ℕ) → i < length bytes → (get_or bytes i 0 ≡ 10 → ⊥)
    → is_free (take i bytes) ≡ true → is_free (take (i + 1) bytes) ≡ true
free_more bytes i within other free =
    let last : is_free (get_or bytes i 0 ∷ []) ≡ true = rw (ne_eqb (get_or bytes i 0) 10 other) refl in
    subst (λ (xs : List ℕ). is_free xs ≡ true) (sym (take_more bytes i 0 within))
    (free_both (take i bytes) (get_or bytes i 0 ∷ []) free last)

pub get_or_behind : (xs rest : List (List ℕ)) (k : ℕ) → get_or (xs ++ rest) (length xs + k) [] ≡ get_or rest k []
get_or_behind [] rest k = let e : length {A = List ℕ} [] + k ≡ k = omega arith in ap (λ n. get_or rest n []) e
get_or_behind (x ∷ xs) rest k =
    let e : length (x ∷ xs) + k ≡ suc (length xs + k) = omega arith in
    ap (λ n. get_or (x ∷ (xs ++ rest)) n []) e ∙ get_or_behind xs rest k

-- what holds of a value that is there where a test passes
pub some_where : {A : Type 0} (P : A → Type 0) (b : Bool) (x : A) (r : Option A) → r ≡ then_some b x
    → (b ≡ true → P x) → IfSome r P
some_where P true x r is holds = subst (λ o. IfSome o P) (sym is) (holds refl)
some_where P false x r is holds = subst (λ o. IfSome o P) (sym is) tt

pub first_of : (bytes text : List ℕ) → bytes ≡ text → get_or bytes 0 0 ≡ get_or text 0 0
first_of bytes text is = ap (λ b. get_or b 0 0) is

-- the elements below a place keep a rule
abbrev pub KeepBelow : {A : Type 0} → (ℕ → A → Type 0) → List A → ℕ → Type 0
KeepBelow {A} Keeps xs n = (i : ℕ) (x : A) → i < n → slice_get xs i ≡ Some x → Keeps i x

abbrev pub among : List ℕ → ℕ → Bool
among [] i = false
among (m ∷ ms) i = (i == m) || among ms i

pub among_append : (xs ys : List ℕ) (i : ℕ) → among (xs ++ ys) i ≡ (among xs i || among ys i)
among_append [] ys i = refl
among_append (x ∷ xs) ys i = by (i == x) (among_append xs ys i)
  where
    by : (b : Bool) → among (xs ++ ys) i ≡ (among xs i || among ys i)
        → (b || among (xs ++ ys) i) ≡ ((b || among xs i) || among ys i)
    by true e = refl
    by false e = e

-- and numbers with commas between them
abbrev pub joined : List ℕ → List ℕ
joined ms = join_by decimal (codes ",") ms

-- the first number, and the others
pub number_first : (y : ℕ) (zs : List ℕ) → y < 16
    → (take (position_or_len (λ b. b == 44) (joined (y ∷ zs))) (joined (y ∷ zs)) ≡ decimal y)
    × (drop (position_or_len (λ b. b == 44) (joined (y ∷ zs)) + 1) (joined (y ∷ zs)) ≡ joined zs)
number_first y [] less =
    let w = decimal y in
    let other = other_decimal y (omega (arith, less)) in
    let whole : joined (y ∷ []) ≡ w = append-nil w in
    let at : position_or_len (λ b. b == 44) w ≡ length w = position_or_len_is (λ b. b == 44) w
    (length w) 0 (omega arith) (λ k l. other k 0 l) (λ l. absurd (omega (arith, l))) in (
      ap (λ t. take (position_or_len (λ b. b == 44) t) t) whole
          ∙ take_all (position_or_len (λ b. b == 44) w) w (omega (arith, at)),
      ap (λ t. drop (position_or_len (λ b. b == 44) t + 1) t) whole
          ∙ drop_all (position_or_len (λ b. b == 44) w + 1) w (omega (arith, at)),
    )
number_first y (z ∷ zs) less =
    let w = decimal y in
    let rest = joined (z ∷ zs) in
    let other = other_decimal y (omega (arith, less)) in
    let long = length-append w (44 ∷ rest) in
    let at : position_or_len (λ b. b == 44) (w ++ 44 ∷ rest) ≡ length w =
    position_or_len_is (λ b. b == 44) (w ++ 44 ∷ rest) (length w) 0 (omega (arith, long))
    (λ k l. subst (λ (n : ℕ). (n == 44) ≡ false) (sym (get_or-append w (44 ∷ rest) 0 k l)) (other k 0 l))
    (λ l. subst (λ (n : ℕ). (n == 44) ≡ true) (sym (get_or-append_seam w 44 rest 0)) refl) in
    let parts : w ++ 44 ∷ rest ≡ (w ++ 44 ∷ []) ++ rest = sym (append_assoc w (44 ∷ []) rest) in (
      ap (λ n. take n (w ++ 44 ∷ rest)) at ∙ take_at w (44 ∷ rest) (length w) refl,
      ap (λ n. drop (n + 1) (w ++ 44 ∷ rest)) at ∙ (ap (drop (length w + 1)) parts
          ∙ drop_at (w ++ 44 ∷ []) rest (length w + 1) (length-append w (44 ∷ []))),
    )

pub same_number : (m n : ℕ) → m < 2 ^ 64 → n < 2 ^ 64 → (word : List ℕ) → word ≡ decimal m → word ≡ decimal n → m ≡ n
same_number m n small few word one other = decimal_injective m n small few (sym one ∙ other)

-- a text of parts ends as its last part does
abbrev last_part : List ℕ → List (List ℕ) → List ℕ
last_part x [] = x
last_part x (y ∷ ys) = last_part y ys

pub ends_concat : (x : List ℕ) (xs : List (List ℕ)) → EndsFed (last_part x xs) → EndsFed (concat (x ∷ xs))
ends_concat x [] ends = subst EndsFed (sym (append-nil x)) ends
ends_concat x (y ∷ ys) ends = ends_behind x (concat (y ∷ ys)) (ends_concat y ys ends)

pub none_at : (k : ℕ) → get_or {A = List ℕ} ([] ∷ []) k [] ≡ []
none_at zero = refl
none_at (suc k) = refl

-- none of one more passes
pub none_more : (p : ℕ → Bool) (bytes : List ℕ) (i : ℕ) → ((k : ℕ) → k < i → p (get_or bytes k 0) ≡ false)
    → p (get_or bytes i 0) ≡ false → (k : ℕ) → k < i + 1 → p (get_or bytes k 0) ≡ false
none_more p bytes i before here k less = by (cases_lt k i)
  where
    by : (k < i) ⊎ (i ≤ k) → p (get_or bytes k 0) ≡ false
    by (inl below) = before k below
    by (inr above) =
        let e : i ≡ k = omega (arith, above, less) in subst (λ (j : ℕ). p (get_or bytes j 0) ≡ false) e here

abbrev AreFree : List (List ℕ) → Type 0
AreFree [] = Unit {0}
AreFree (x ∷ xs) = (is_free x ≡ true) × AreFree xs

-- parts before a line feed
pub fed_parts : (xs : List (List ℕ)) → AreFree xs → IsFed (concat (xs ++ (10 ∷ []) ∷ []))
fed_parts [] free = ([], refl, refl)
fed_parts (x ∷ xs) free =
    let rest = fed_parts xs free.1 in (
      x ++ rest.0,
      free_both x rest.0 free.0 rest.1,
      ap (λ ys. x ++ ys) rest.2 ∙ sym (append_assoc x rest.0 (10 ∷ [])),
    )

-- two tests that agree on a range
pub same_tests : (p q : ℕ → Bool) (slot : ℕ → ℕ) (n a : ℕ) → ((i : ℕ) → a ≤ i → i < a + n → p (slot i) ≡ q i)
    → list_all p (map slot (range_with_len a n)) ≡ list_all q (range_with_len a n)
same_tests p q slot zero a same = refl
same_tests p q slot (suc n) a same =
    let first = same a (omega arith) (omega arith) in
    let others = same_tests p q slot n (a + 1) (λ i from to. same i (omega arith) (omega arith)) in
    rw (first, others) refl

-- the words of the first parts of a body
abbrev pub first_words : (ℕ → ℕ) → ℕ → List ℕ
first_words slot n = map slot (range_with_len 1 n)

-- the first words of a body, with one part more
pub words_more : (slot : ℕ → ℕ) (n : ℕ) → first_words slot (n + 1) ≡ first_words slot n ++ slot (1 + n) ∷ []
words_more slot n = map-range_with_len_more slot 1 n (1 + n) refl

-- a list of which one place more is filled
pub filled_more : (list : List ℕ) (at i v : ℕ) (of : ℕ → ℕ) → at ≡ i → i < length list → v ≡ of i
    → ((j : ℕ) → j < i → get_or list j 0 ≡ of j) → (j : ℕ) → j < i + 1 → get_or (set list at v) j 0 ≡ of j
filled_more list at i v of here within new before =
    below_more _ _ (λ j l. get_or-set_other list at j v 0 (omega (arith, here, l)) ∙ before j l)
    (ap (λ (n : ℕ). get_or (set list n v) i 0) here ∙ get_or-set_same list i v 0 within ∙ new)

pub IsBytes-drop : (n : ℕ) (bytes : List ℕ) → IsBytes bytes → IsBytes (drop n bytes)
IsBytes-drop n bytes fits i = rw get_or-drop (fits (n + i))

pub written_length : (row : List ℕ) (column : ℕ) (words : List ℕ) → column ≤ length row
    → length (take column row ++ words) ≡ column + length words
written_length row column words within = omega (arith, length-append (take column row) words, length-take column row)

-- the front of a list that was made of another, element by element
pub made_of : (f : ℕ → ℕ) (made from : List ℕ) (n : ℕ) → n ≤ length made → n ≤ length from
    → ((j : ℕ) → j < n → get_or made j 0 ≡ f (get_or from j 0)) → take n made ≡ map f (take n from)
made_of f made from n long enough each = same_number_lists (take n made) (map f (take n from))
    (length-take-le n made long ∙ sym (length-map (take n from) f ∙ length-take-le n from enough))
    (λ j l. let low : j < n = omega (arith, l, length-take-le n made long) in
    get_or-take n made j 0 low ∙ each j low ∙ sym (get_or-map f
    (take n from) j 0 0 (omega (arith, low, length-take-le n from enough)) ∙ ap f (get_or-take n from j 0 low)))

pub at_most : (top : ℕ) (xs : List ℕ) → fold min top xs ≤ top
at_most top [] = le_refl top
at_most top (x ∷ xs) = le_trans (at_most (min top x) xs) (min-le_left top x)

pub rises_each : (low high : ℕ) (f g : ℕ → ℕ) (xs : List ℕ) → low ≤ high
    → ((i : ℕ) → f i ≤ g i) → fold min low (map f xs) ≤ fold min high (map g xs)
rises_each low high f g [] l rise = l
rises_each low high f g (x ∷ xs) l rise =
    rises_each (min low (f x)) (min high (g x)) f g xs (omega (arith, l, rise x)) rise

-- what is at most the bound has a greatest that is, too
pub fold_max_within : (f : ℕ → ℕ) (xs : List ℕ) (a b : ℕ) → a ≤ b → ((x : ℕ) → f x ≤ b) → fold max a (map f xs) ≤ b
fold_max_within f [] a b l each = l
fold_max_within f (x ∷ xs) a b l each = fold_max_within f xs (max a (f x)) b (omega (arith, l, each x)) each

-- past the end stands the default
pub default_past : {A : Type 0} (xs : List A) (i : ℕ) (d : A) → length xs ≤ i → get_or xs i d ≡ d
default_past xs i d l = sym (unwrap_or-slice_get xs i d) ∙ ap (λ o. unwrap_or o d) (slice_get_past xs i l)

-- setting one total leaves those behind it at 0
pub rest_more : (totals : List ℕ) (i x : ℕ) → ((k : ℕ) → i ≤ k → get_or totals k 0 ≡ 0)
    → (k : ℕ) → i + 1 ≤ k → get_or (set totals i x) k 0 ≡ 0
rest_more totals i x rest k behind = get_or-set_other totals i k x 0 (omega arith) ∙ rest k (omega arith)

-- and at the push of a changed word to it, be it a push or a crash
pub both : (a b d : Bool) → a ≡ true → b ≡ true → d ≡ true → ((a && b) && d) ≡ true
both true true d e f h = h
both false b d e f h = absurd (cc)
both true false d e f h = absurd (cc)

-- nothing was read yet
abbrev pub none_counted : List ℕ
none_counted = 0 ∷ 0 ∷ 0 ∷ 0 ∷ 0 ∷ 0 ∷ 0 ∷ 0 ∷ 0 ∷ 0 ∷ 0 ∷ 0 ∷ 0 ∷ 0 ∷ 0 ∷ 0 ∷ []

-- what is read does not go by what is read past the end
pub same_under : {X : Type 0} (xs : List X) (i : ℕ) (d e : X) → i < length xs → get_or xs i d ≡ get_or xs i e
same_under xs i d e l =
    same_Some (get_or xs i d) (get_or xs i e) (sym (slice_get-get_or xs i d l) ∙ slice_get-get_or xs i e l)

-- five texts, each appended behind what the one before it left
pub five_behind : (front a b c d e one two three four five : List ℕ) → one ≡ front ++ a → two ≡ one ++ b
    → three ≡ two ++ c → four ≡ three ++ d → five ≡ four ++ e → five ≡ front ++ concat (a ∷ b ∷ c ∷ d ∷ e ∷ [])
five_behind front a b c d e one two three four five is1 is2 is3 is4 is5 =
    simp (is5, is4, is3, is2, is1, append_assoc, append-nil) refl

-- a range of one more number ends with that number
pub range_more : (a n : ℕ) → range_with_len a (suc n) ≡ range_with_len a n ++ (a + n) ∷ []
range_more a zero = ap (λ x. x ∷ []) (omega arith)
range_more a (suc n) = ap (λ xs. a ∷ xs)
    (range_more (a + 1) n ∙ ap (λ x. range_with_len (a + 1) n ++ x ∷ []) (omega arith))

-- the numbers from 0 on, and one more
pub count_more : (n : ℕ) → range_with_len 0 (n + 1) ≡ range_with_len 0 n ++ n ∷ []
count_more n = ap (range_with_len 0) (add-one n) ∙ range_more 0 n
    ∙ ap (λ x. range_with_len 0 n ++ x ∷ []) (omega arith)

-- two parts of a list have its places
pub parts_long : {X : Type 0} (n : ℕ) (xs : List X) → length (take n xs) + length (drop n xs) ≡ length xs
parts_long zero xs = omega arith
parts_long (suc n) [] = refl
parts_long (suc n) (x ∷ xs) = let rest = parts_long n xs in omega arith

-- two lists of values alike
pub same_map : {X : Type 0} (f g : ℕ → X) (a b n : ℕ) → ((k : ℕ) → f (a + k) ≡ g (b + k))
    → map f (range_with_len a n) ≡ map g (range_with_len b n)
same_map f g a b zero same = refl
same_map f g a b (suc n) same =
    let here = moved f a (a + 0) (omega arith) ∙ same 0 ∙ moved g (b + 0) b (omega arith) in
    let rest = same_map f g (a + 1) (b + 1) n (λ k. moved f (a + 1 + k) (a + (k + 1)) (omega arith)
    ∙ same (k + 1) ∙ moved g (b + (k + 1)) (b + 1 + k) (omega arith)) in
    λ i. here i ∷ rest i

-- as entries
pub numbered_on : (n : ℕ) (xs rest : List (List ℕ)) → (more : List (ℕ × List ℕ))
    × (enumerate_from n xs ++ more ≡ enumerate_from n (xs ++ rest))
numbered_on n [] rest = (enumerate_from n rest, refl)
numbered_on n (x ∷ xs) rest =
    let r = numbered_on (n + 1) xs rest in (r.0, ap (λ (l : List (ℕ × List ℕ)). (n, x) ∷ l) r.1)

-- a position is found where some element passes
some_from : {X : Type 0} (p : X → Bool) (xs : List X) (n : ℕ) → is_some (position_from p n xs) ≡ list_any p xs
some_from p [] n = refl
some_from p (x ∷ xs) n =
    elim (p x) as (λ b. is_some (cond b (Some n) (position_from p (n + 1) xs)) ≡ (b || list_any p xs)) [
      | true ↦ refl
      | false ↦ some_from p xs (n + 1)
    ]

pub some_position : {X : Type 0} (p : X → Bool) (xs : List X) → is_some (position p xs) ≡ list_any p xs
some_position p xs = ap is_some (position_from-zero p xs) ∙ some_from p xs 0

-- a test that no element passes fails at each
pub none_of : {X : Type 0} (p : X → Bool) (xs : List X) (k : ℕ) (d : X) → list_any p xs ≡ false → k < length xs
    → p (get_or xs k d) ≡ false
none_of p xs k d none within = elim (cases_Bool (p (get_or xs k d))) [
  | inl is ↦ absurd (true≢false (sym (list_any_at p xs k d within is) ∙ none))
  | inr other ↦ other
]

-- a number that is not in a list
abbrev pub Lacks : ℕ → List ℕ → Type 0
Lacks n [] = ⊤
Lacks n (e ∷ es) = (e ≡ n → ⊥) × Lacks n es

abbrev pub has_none : {A : Type 0} → List A → Bool
has_none [] = true
has_none (x ∷ xs) = false

-- numbers with commas between them
abbrev pub commas : List ℕ → List ℕ
commas ns = join_by decimal (codes ",") ns

-- what is written of one number more
abbrev pub one_more : Bool → ℕ → List ℕ
one_more first n = (if first then [] else codes ",") ++ decimal n

pub longer : {A : Type 0} (xs : List A) (x : A) → has_none (xs ++ x ∷ []) ≡ false
longer [] x = refl
longer (y ∷ ys) x = refl

pub commas_more : (ns : List ℕ) (n : ℕ) → commas (ns ++ n ∷ []) ≡ commas ns ++ one_more (has_none ns) n
commas_more [] n = append-nil (decimal n)
commas_more (m ∷ ns) n = ap (λ l. decimal m ++ l)
    (flat_map-append (λ y. codes "," ++ decimal y) ns (n ∷ [])
    ∙ ap (λ l. flat_map (λ y. codes "," ++ decimal y) ns ++ l) (append-nil (codes "," ++ decimal n)))
    ∙ sym (append_assoc (decimal m) (flat_map (λ y. codes "," ++ decimal y) ns) (codes "," ++ decimal n))

pub same_line : (xs ys : List ℕ) → bytes_eq xs ys ≡ true → xs ≡ ys
same_line xs ys is = (bytes_eq-Decides xs ys).0 is

-- what is different stays so the other way round
pub other_line : (xs ys : List ℕ) → bytes_eq xs ys ≡ false → bytes_eq ys xs ≡ false
other_line xs ys is = elim (cases_Bool (bytes_eq ys xs)) [
  | inl same ↦ absurd (true≢false (sym ((bytes_eq-Decides xs ys).1 (sym (same_line ys xs same))) ∙ is))
  | inr other ↦ other
]

-- three pieces, one behind the other
pub three_told : (start a b new p q r : List ℕ) → start ≡ [] → a ≡ start ++ p → b ≡ a ++ q → new ≡ b ++ r
    → new ≡ (p ++ q) ++ r
three_told start a b new p q r none first second third =
    third ∙ ap (λ l. l ++ r) (second ∙ ap (λ l. l ++ q) (first ∙ ap (λ l. l ++ p) none))

-- ---- lists of one element

-- what is before the last of one is nothing
pub last_one : {X : Type 0} (xs ys : List X) (x : X) → xs ≡ ys ++ x ∷ [] → length xs ≡ 1 → ys ≡ []
last_one xs [] x is one = refl
last_one xs (y ∷ ys) x is one = absurd (omega (arith, one, ap length is, length-append ys (x ∷ [])))

-- the one that is read
pub one_read : {X : Type 0} (xs : List X) (x y : X) → length xs ≡ 1 → x ≡ get_or xs 0 x → x ≡ y → xs ≡ y ∷ []
one_read [] x y one read is = absurd (omega arith)
one_read (z ∷ []) x y one read is = ap (λ w. w ∷ []) (sym read ∙ is)
one_read (z ∷ w ∷ ws) x y one read is = absurd (omega arith)

pub one-given : {X Y : Type 0} (f : X → Option Y) (x : X) → filter_map f (x ∷ []) ≡ option_to_list (f x)
one-given f x = by (f x) refl
  where
    by : (r : Option _) → f x ≡ r → filter_map f (x ∷ []) ≡ option_to_list (f x)
    by None e = rw e refl
    by (Some y) e = rw e refl

-- no number stands twice
abbrev pub AreDistinct : List ℕ → Type 0
AreDistinct xs = (i j x : ℕ) → slice_get xs i ≡ Some x → slice_get xs j ≡ Some x → i ≡ j

-- the place behind the last round of the greatest count
abbrev pub top_place : List ℕ → ℕ
top_place counts = length counts * fold max 0 counts

pub none_most : (ms : List ℕ) → fold max 0 (map (λ (s : ℕ). 0) ms) ≡ 0
none_most [] = refl
none_most (m ∷ ms) = none_most ms

pub least_within : (f : ℕ → ℕ) (ms : List ℕ) (a : ℕ) → fold min a (map f ms) ≤ a
least_within f [] a = le_refl a
least_within f (m ∷ ms) a = let h : fold min (min a (f m)) (map f ms)
    ≤ min a (f m) = least_within f ms (min a (f m)) in omega (arith, h)

-- no count falls
pub counts_rise : (counts : List ℕ) (s c j : ℕ) → s < length counts → get_or counts s 0 ≤ c
    → get_or counts j 0 ≤ get_or (set counts s c) j 0
counts_rise counts s c j within le = elim (cases_eq j s) [
  | inl same ↦ let there = get_or-set_same counts s c 0 within in rw (same, there) le
  | inr other ↦ omega (arith, get_or-set_other counts s j c 0 other)
]

-- no count is greater than the greatest
pub counts_bounded : (counts : List ℕ) (s c most : ℕ) → s < length counts → c ≤ most
    → ((j : ℕ) → get_or counts j 0 ≤ most) → (j : ℕ) → get_or (set counts s c) j 0 ≤ most
counts_bounded counts s c most within le all j = elim (cases_eq j s) [
  | inl same ↦ let there = get_or-set_same counts s c 0 within in rw (same, there) le
  | inr other ↦ omega (arith, get_or-set_other counts s j c 0 other, all j)
]

-- a number is below the least exactly where it is below all
pub below_least : (x top : ℕ) (f : ℕ → ℕ) (xs : List ℕ) → nat_lt x (fold min top (map f xs))
    ≡ (nat_lt x top && list_all (λ i. nat_lt x (f i)) xs)
below_least x top f [] = with_true (nat_lt x top)
  where
    with_true : (b : Bool) → b ≡ (b && true)
    with_true b = grind arith
below_least x top f (y ∷ ys) = below_least x (min top (f y)) f ys
    ∙ regroup x top (f y) (list_all (λ i. nat_lt x (f i)) ys)
  where
    regroup : (x a b : ℕ) (t : Bool) → (nat_lt x (min a b) && t) ≡ (nat_lt x a && (nat_lt x b && t))
    regroup x a b t = grind (arith, nat_tests)

-- a list is empty or has a last element
pub last-of : {A : Type 0} (xs : List A) → (xs ≡ []) ⊎ ((front : List A) × (x : A) × (xs ≡ front ++ x ∷ []))
last-of [] = inl refl
last-of {A} (y ∷ xs) = by (last-of xs)
  where
    by : (xs ≡ []) ⊎ ((front : List A) × (x : A) × (xs ≡ front ++ x ∷ []))
        → (y ∷ xs ≡ []) ⊎ ((front : List A) × (x : A) × (y ∷ xs ≡ front ++ x ∷ []))
    by (inl e) = inr ([], y, ap (λ l. y ∷ l) e)
    by (inr t) = inr (y ∷ t.0, t.1, ap (λ l. y ∷ l) t.2)

-- an element of a list with one more at its end is the last one, or stands in the list
pub split-last : {A : Type 0} (before behind es : List A) (x y : A) → before ++ x ∷ behind ≡ es ++ y ∷ []
    → ((before ≡ es) × (x ≡ y)) ⊎ ((rest : List A) × (es ≡ before ++ x ∷ rest))
split-last [] behind [] x y e = let same : x ≡ y = cc in inl (refl, same)
split-last [] behind (z ∷ es) x y e = let same : z ≡ x = cc in inr (es, ap (λ t. t ∷ es) same)
split-last {A} (b ∷ before) behind [] x y e = absurd (none before behind rest)
  where
    rest : before ++ x ∷ behind ≡ []
    rest = cc

    none : (front back : List A) → front ++ x ∷ back ≡ [] → ⊥
    none [] back h = absurd (cc)
    none (c ∷ front) back h = absurd (cc)
split-last {A} (b ∷ before) behind (z ∷ es) x y e = by (split-last before behind es x y rest)
  where
    rest : before ++ x ∷ behind ≡ es ++ y ∷ []
    rest = cc

    same : b ≡ z
    same = cc

    by : ((before ≡ es) × (x ≡ y)) ⊎ ((rest : List A) × (es ≡ before ++ x ∷ rest))
        → ((b ∷ before ≡ z ∷ es) × (x ≡ y)) ⊎ ((rest : List A) × (z ∷ es ≡ b ∷ (before ++ x ∷ rest)))
    by (inl t) = inl (ap (λ l. b ∷ l) t.0 ∙ ap (λ c. c ∷ es) same, t.1)
    by (inr t) = inr (t.0, ap (λ l. z ∷ l) t.1 ∙ ap (λ c. c ∷ (before ++ x ∷ t.0)) (sym same))

pub items_begin : (most n : ℕ) → sum_by (λ count. most - count) (replicate n 0) ≡ most * n
items_begin most n =
    let none : most - 0 ≡ most = omega arith in
    sum_by-replicate (λ (count : ℕ). most - count) n 0 ∙ ap (λ k. n * k) none ∙ mul_comm n most

-- all elements from a place on
pub all_from : {X : Type 0} (p : ℕ) (xs : List X) → take (length xs - p) (drop p xs) ≡ drop p xs
all_from p xs = take_all (length xs - p) (drop p xs) (omega (arith, length-drop p xs))

-- one word more passes
pub passes_more : (p : ℕ → Bool) (slot : ℕ → ℕ) (n : ℕ)
    → list_all p (first_words slot n) ≡ true → p (slot (1 + n)) ≡ true → list_all p (first_words slot (n + 1)) ≡ true
passes_more p slot n all one = ap (list_all p) (words_more slot n)
    ∙ list_all-append p (first_words slot n) (slot (1 + n) ∷ []) ∙ rw (all, one) refl

-- one that doesn't is enough
pub passes_not : (p : ℕ → Bool) (slot : ℕ → ℕ) (n i : ℕ) → i < n
    → p (slot (1 + i)) ≡ false → list_all p (first_words slot n) ≡ false
passes_not p slot n i lt one =
    list_all_at p (first_words slot n) i 0 (omega (arith, length-map-range_with_len slot 1 n))
    (ap p (get_or-map-range_with_len slot 1 n i (1 + i) 0 lt refl) ∙ one)

-- where each of the first words of a body passes a test, all do
pub all_pass : (p : ℕ → Bool) (slot : ℕ → ℕ) (n : ℕ) → ((part : ℕ) → part < n → p (slot (1 + part)) ≡ true)
    → list_all p (first_words slot n) ≡ true
all_pass p slot zero each = refl
all_pass p slot (suc n) each = ap (λ (m : ℕ). list_all p (first_words slot m)) (sym (add-one n))
    ∙ passes_more p slot n (all_pass p slot n (λ part lt. each part (omega arith))) (each n (omega arith))

-- where all first words of a body pass a test, each of them does
pub each_passes : (p : ℕ → Bool) (slot : ℕ → ℕ) (n part : ℕ)
    → list_all p (first_words slot n) ≡ true → part < n → p (slot (1 + part)) ≡ true
each_passes p slot n part all lt = by (p (slot (1 + part))) refl
  where
    by : (b : Bool) → p (slot (1 + part)) ≡ b → p (slot (1 + part)) ≡ true
    by true e = e
    by false e = absurd (cc (sym all ∙ passes_not p slot n part lt e))

-- a block more of a body passes
pub block_passes : (p : ℕ → Bool) (slot : ℕ → ℕ) (n : ℕ) → list_all p (first_words slot n) ≡ true
    → ((i : ℕ) → i < 4 → p (slot (1 + n + i)) ≡ true) → list_all p (first_words slot (n + 4)) ≡ true
block_passes p slot n all each = all_pass p slot (n + 4) (λ part l. by part l (cases_lt part n))
  where
    by : (part : ℕ) → part < n + 4 → (part < n) ⊎ (n ≤ part) → p (slot (1 + part)) ≡ true
    by part l (inl before) = each_passes p slot n part all before
    by part l (inr behind) = let place : 1 + n + (part - n) ≡ 1 + part = omega (arith, behind) in
        subst (λ (m : ℕ). p (slot m) ≡ true) place (each (part - n) (omega (arith, behind, l)))

-- where not each word of a block does, not all of the body do
pub block_fails : (p : ℕ → Bool) (slot : ℕ → ℕ) (n count : ℕ) (block : Bool) → n + 4 ≤ count → block ≡ false
    → (((i : ℕ) → i < 4 → p (slot (1 + n + i)) ≡ true) → IsTrue block) → list_all p (first_words slot count) ≡ false
block_fails p slot n count block room missing test = by (list_all p (first_words slot count)) refl
  where
    by : (b : Bool) → list_all p (first_words slot count) ≡ b → list_all p (first_words slot count) ≡ false
    by false e = e
    by true e = absurd (cc (missing, test each))
      where
        each : (i : ℕ) → i < 4 → p (slot (1 + n + i)) ≡ true
        each i l = let place : 1 + (n + i) ≡ 1 + n + i = omega arith in
            subst (λ (m : ℕ). p (slot m) ≡ true) place (each_passes p slot count (n + i) e (omega (arith, l, room)))
