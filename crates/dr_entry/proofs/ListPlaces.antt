-- Facts of lists: what stands at which place.
use Rattle.std.specs.{Cmp.{tied_itself, Lexicographic.nat_list_cmp_total}, Int.{w32, from_be_bytes, to_be_bytes}}
use Rattle.std.specs.List.{position, position_or_len, Any, AllZip, range_with_len, filter, remove, list_any, list_all}
use Rattle.std.specs.{Ordering.is_eq, declared.alloc.Global.Global}
use Rattle.std.{specs.Prelude.{Vec, slice_set, option_map, sum_by}, proofs.lemmas.List.Elements.filter_map-append}
use Rattle.std.proofs.Common.{ℕ, zero, suc, ◌<◌, ◌≤◌, max, List, [], ◌∷◌, length, fold, slice_index, arith, ◌≡◌, Bool, true, false, slice_index_or, nat_lt, None, Some, ◌+◌, ◌++◌, take, sym, ap, ◌∙◌, refl, Option, filter_map, option_to_list, slice_get, subst, ◌⊎◌, inl, inr, get_or, All, drop, ◌-◌, ◌/◌, ◌%◌, ◌≢◌, min, map, replicate, ⊎_elim, cond, le_refl, length-append, Contains, ◌==◌, append_assoc, take-append-drop}
use Rattle.std.proofs.{Math.ListN.set, lemmas.List.FromFn.{fill_by_all, get_or-range_with_len, length-range_with_len}}
use Rattle.std.proofs.lemmas.Bool.{cond-true, lt-ltb, cond-false, le-ltb, cases_lt, eq-eqb, ne_eqb, ltb-true, or_cases, and_parts}
use Rattle.std.proofs.lemmas.{Bool.Decides.nat_tests, List.{Edits.fill_by_more, Folds.list_any_at}}
use Rattle.std.proofs.lemmas.List.{take_more, get_or-set_same, length-set, get_or-set_other, get_or-replicate, get_or_past, length-replicate, get_or-map, length-map, get_or_append_left, set-append_left, get_or-append_right, set-append_right, get_or_push, set_past, get_or_default}
use Rattle.std.proofs.lemmas.List.Sums.{position_or_len_is, sum_by-append, sum_by-cons, sum_by-set}
use Rattle.std.proofs.lemmas.Option.{same_Some, slice_get-get_or, get_or_from_slice_get, slice_get_within, none-some, slice_get_past}
use mathlib.Core.Option.{some, some-injective, some-ne-none}
use lib.ListN.{get_elem?}
use Rattle.dr_entry.{specs.declared.limits.TheConstants.MAX_MEMBERS, proofs.{BoolFacts.equal, Fields.IsBytes}}
use Rattle.dr_entry.proofs.ListFacts.{fold_max, by_bytes, is_key, KeepBelow, at_most, default_past, parts_long, AreDistinct}
use Rattle.dr_entry.proofs.{ListParts.agree_above, NumberFacts.{four, byte_0, byte_1, byte_2, byte_3, moved}}
use Rattle.dr_entry.proofs.PlainFacts.{same_key, zero_fits}

-- a count is at most the greatest
pub count_max : (xs : List ℕ) (a i : ℕ) → i < length xs → slice_index xs i ≤ fold max a xs
count_max [] a i l = absurd (omega arith)
count_max (x ∷ xs) a zero l = let h : max a x ≤ fold max (max a x) xs = fold_max xs (max a x) in
    omega arith
count_max (x ∷ xs) a (suc i) l = count_max xs (max a x) i (omega arith)

-- the first place at which a test passes
pub position_found : {X : Type 0} (p : X → Bool) (xs : List X) (k : ℕ) (d : X) → k < length xs
    → ((j : ℕ) → j < k → p (slice_index_or xs j d) ≡ false) → p (slice_index_or xs k d) ≡ true
    → position p xs ≡ Some k
position_found p xs k d within before at =
    let first : position_or_len p xs ≡ k = position_or_len_is p xs k d (omega arith) before (λ _. at) in
    rw first (cond-true (nat_lt k (length xs)) (Some k) None (lt-ltb k (length xs) within))

-- no place, where a test passes at none
pub position_none : {X : Type 0} (p : X → Bool) (xs : List X) (d : X)
    → ((j : ℕ) → j < length xs → p (slice_index_or xs j d) ≡ false) → position p xs ≡ None
position_none p xs d never =
    let first : position_or_len p xs ≡ length xs = position_or_len_is p xs (length xs) d (omega arith) never
    (λ l. absurd (omega arith)) in
    rw first (cond-false (nat_lt (length xs) (length xs)) (Some (length xs)) None
    (le-ltb (length xs) (length xs) (omega arith)))

-- the front of a list and the element that was read behind it
pub take_read : {X : Type 0} (xs : List X) (i : ℕ) (x : X) → i < length xs
    → x ≡ slice_index_or xs i x → take (i + 1) xs ≡ take i xs ++ x ∷ []
take_read xs i x within read = take_more xs i x within ∙ ap (λ y. take i xs ++ y ∷ []) (sym read)

-- a key that passes the test of another key passes no test that that one fails
pub apart_by : (q k : List ℕ) (e : Vec ℕ Global) → is_key k e ≡ false → is_key q e ≡ true
    → is_eq (by_bytes q k) ≡ true → ⊥
apart_by q k e differs at_e at_k =
    let k_is_e = sym (same_key q k (equal _ at_k)) ∙ same_key q e.items (equal _ at_e) in
    cc (sym (ap (λ x. is_eq (by_bytes k x)) k_is_e ∙ differs) ∙ ap is_eq (tied_itself nat_list_cmp_total k))

-- what the elements so far give, and the next one
pub filter_map_more : {X Y : Type 0} (f : X → Option Y) (xs : List X) (i : ℕ) (x : X) (ys : List Y) (o : Option Y)
    → i < length xs → x ≡ slice_index_or xs i x → f x ≡ o → ys ≡ filter_map f (take i xs)
    → ys ++ option_to_list o ≡ filter_map f (take (i + 1) xs)
filter_map_more {X} {Y} f xs i x ys o within read is so_far =
    rw (take_read xs i x within read, filter_map-append f (take i xs) (x ∷ []), so_far)
    (ap (λ (zs : List Y). filter_map f (take i xs) ++ zs) (by o is))
  where
    by : (o : Option Y) → f x ≡ o → option_to_list o ≡ filter_map f (x ∷ [])
    by None is = rw is refl
    by (Some y) is = rw is refl

pub slice_get-append : {A : Type 0} (xs ys : List A) → slice_get (xs ++ ys) (length xs) ≡ slice_get ys 0
slice_get-append [] ys = refl
slice_get-append (x ∷ xs) ys = slice_get-append xs ys

pub index_of_get : (xs : List ℕ) (x : ℕ) → slice_get xs 0 ≡ Some x → slice_index xs 0 ≡ x
index_of_get [] x e = absurd (cc)
index_of_get (y ∷ ys) x e = cc

-- the element at the end, and those before it, of a list with one more
pub seam : (xs : List ℕ) (x : ℕ) → slice_get (xs ++ x ∷ []) (length xs) ≡ Some x
seam [] x = refl
seam (y ∷ xs) x = seam xs x

-- one more keeps it
pub below_more : {A : Type 0} (Keeps : ℕ → A → Type 0) (xs : List A) (n m : ℕ) (y : A) → m ≡ n + 1
    → slice_get xs n ≡ Some y → Keeps n y → KeepBelow Keeps xs n → KeepBelow Keeps xs m
below_more {A} Keeps xs n m y next here keeps before i x below at = by (cases_lt i n)
  where
    by : (i < n) ⊎ (n ≤ i) → Keeps i x
    by (inl less) = before i x less at
    by (inr more) =
        let e : n ≡ i = omega (arith, below, next, more) in
        let one : y ≡ x = same_Some y x (sym here ∙ ap (slice_get xs) e ∙ at) in
        subst (λ (k : ℕ). Keeps k x) e (subst (λ (z : A). Keeps n z) one keeps)

-- an element that was read
pub read_at : {A : Type 0} (xs : List A) (i : ℕ) (x : A) → i < length xs → x ≡ get_or xs i x → slice_get xs i ≡ Some x
read_at xs i x within is = slice_get-get_or xs i x within ∙ ap Some (sym is)

-- and what holds at each place holds of all
pub all_from_places : {A : Type 0} (P : A → Type 0) (xs : List A)
    → ((i : ℕ) (x : A) → slice_get xs i ≡ Some x → P x) → All P xs
all_from_places P xs each k d within = each k (get_or xs k d) (slice_get-get_or xs k d within)

-- some element is one at a place
pub any_at : {A : Type 0} (P : A → Type 0) (xs : List A) (i : ℕ) (x : A) → slice_get xs i ≡ Some x → P x → Any P xs
any_at P xs i x at holds = (i, x, slice_get_within xs i x at, get_or_from_slice_get xs i x x at, holds)

-- and stands at one
pub at_any : {A : Type 0} (P : A → Type 0) (xs : List A) → Any P xs
    → (i : ℕ) × (x : A) × (slice_get xs i ≡ Some x) × P x
at_any P xs found = (found.0, found.1, slice_get-get_or xs found.0 found.1 found.2 ∙ ap Some found.3, found.4)

-- each element has one beside it
pub zip_at : {A B : Type 0} (R : A → B → Type 0) (xs : List A) (ys : List B) → AllZip R xs ys → (i : ℕ) (y : B)
    → slice_get ys i ≡ Some y → (x : A) × (slice_get xs i ≡ Some x) × R x y
zip_at R [] [] zip i y at = absurd (none-some y at)
zip_at R [] (z ∷ ys) zip i y at = absurd zip
zip_at R (x ∷ xs) [] zip i y at = absurd zip
zip_at R (x ∷ xs) (z ∷ ys) zip zero y at = (x, refl, subst (R x) (same_Some z y at) zip.0)
zip_at R (x ∷ xs) (z ∷ ys) zip (suc i) y at = zip_at R xs ys zip.1 i y at

-- and the other way round
pub zip_to : {A B : Type 0} (R : A → B → Type 0) (xs : List A) (ys : List B) → AllZip R xs ys → (i : ℕ) (x : A)
    → slice_get xs i ≡ Some x → (y : B) × (slice_get ys i ≡ Some y) × R x y
zip_to R [] [] zip i x at = absurd (none-some x at)
zip_to R [] (y ∷ ys) zip i x at = absurd zip
zip_to R (z ∷ xs) [] zip i x at = absurd zip
zip_to R (z ∷ xs) (y ∷ ys) zip zero x at = (y, refl, subst (λ w. R w y) (same_Some z x at) zip.0)
zip_to R (z ∷ xs) (y ∷ ys) zip (suc i) x at = zip_to R xs ys zip.1 i x at

-- an element of what is behind some is one of the list
pub behind_at : {A : Type 0} (n : ℕ) (xs : List A) (k : ℕ) (x : A) → slice_get (drop n xs) k ≡ Some x
    → slice_get xs (n + k) ≡ Some x
behind_at zero xs k x at = let e : zero + k ≡ k = omega arith in ap (slice_get xs) e ∙ at
behind_at (suc n) [] k x at = absurd (none-some x at)
behind_at (suc n) (y ∷ xs) k x at =
    let e : suc n + k ≡ suc (n + k) = omega arith in ap (slice_get (y ∷ xs)) e ∙ behind_at n xs k x at

-- and the other way round
pub at_behind : {A : Type 0} (n : ℕ) (xs : List A) (k : ℕ) → slice_get (drop n xs) k ≡ slice_get xs (n + k)
at_behind zero xs k = let e : k ≡ zero + k = omega arith in ap (slice_get xs) e
at_behind (suc n) [] k = refl
at_behind (suc n) (y ∷ xs) k =
    let e : suc (n + k) ≡ suc n + k = omega arith in at_behind n xs k ∙ ap (slice_get (y ∷ xs)) e

-- four bytes, or fewer at the end, are those of their number
pub bytes_back : (bytes rest : List ℕ) → IsBytes bytes → take (length bytes - 4) rest ≡ drop 4 bytes
    → take (length bytes) (to_be_bytes w32 (from_be_bytes w32 bytes) ++ rest) ≡ bytes
bytes_back [] rest fits e = refl
bytes_back (a ∷ []) rest fits e = ap (λ (x : ℕ). x ∷ []) (byte_0 a 0 0 0 (fits 0) zero_fits zero_fits zero_fits)
bytes_back (a ∷ b ∷ []) rest fits e = ap (λ (x : ℕ). x ∷ four a b 0 0 / 65536 % 256 ∷ []) (byte_0 a b 0 0 (fits 0)
    (fits 1) zero_fits zero_fits) ∙ ap (λ (x : ℕ). a ∷ x ∷ []) (byte_1 a b 0 0 (fits 0) (fits 1) zero_fits zero_fits)
bytes_back (a ∷ b ∷ c ∷ []) rest fits e = ap (λ (x : ℕ). x ∷ four a b c 0 / 65536 % 256
    ∷ four a b c 0 / 256 % 256 ∷ []) (byte_0 a b c 0 (fits 0) (fits 1) (fits 2) zero_fits)
    ∙ ap (λ (x : ℕ). a ∷ x ∷ four a b c 0 / 256 % 256 ∷ []) (byte_1 a b c 0 (fits 0) (fits 1) (fits 2) zero_fits)
    ∙ ap (λ (x : ℕ). a ∷ b ∷ x ∷ []) (byte_2 a b c 0 (fits 0) (fits 1) (fits 2) zero_fits)
bytes_back (a ∷ b ∷ c ∷ d ∷ bytes) rest fits e =
    let n = four a b c d in
    let left : length (a ∷ b ∷ c ∷ d ∷ bytes) - 4 ≡ length bytes = omega arith in
    let end : take (length bytes) rest ≡ bytes = ap (λ (m : ℕ). take m rest) (sym left) ∙ e in
    ap (λ (x : ℕ). x ∷ n / 65536 % 256 ∷ n / 256 % 256 ∷ n % 256 ∷ take (length bytes) rest)
    (byte_0 a b c d (fits 0) (fits 1) (fits 2) (fits 3)) ∙ ap (λ (x : ℕ). a
    ∷ x ∷ n / 256 % 256 ∷ n % 256 ∷ take (length bytes) rest) (byte_1 a b c d (fits 0) (fits 1) (fits 2) (fits 3))
    ∙ ap (λ (x : ℕ). a ∷ b ∷ x ∷ n % 256 ∷ take (length bytes) rest)
    (byte_2 a b c d (fits 0) (fits 1) (fits 2) (fits 3)) ∙ ap (λ (x : ℕ). a ∷ b ∷ c ∷ x ∷ take (length bytes) rest)
    (byte_3 a b c d (fits 0) (fits 1) (fits 2) (fits 3)) ∙ ap (λ (xs : List ℕ). a ∷ b ∷ c ∷ d ∷ xs) end

pub get_next : {A : Type 0} (xs : List A) (x : A) (k : ℕ) → (k ≡ length xs) → slice_get (xs ++ x ∷ []) k ≡ Some x
get_next [] x k e = rw e refl
get_next (y ∷ xs) x k e = rw e (get_next xs x (length xs) refl)

pub get_before : {A : Type 0} (xs : List A) (x : A) (k : ℕ) → k < length xs → slice_get (xs ++ x ∷ []) k
    ≡ slice_get xs k
get_before [] x k l = absurd (omega arith)
get_before (y ∷ xs) x zero l = refl
get_before (y ∷ xs) x (suc k) l = get_before xs x k (omega arith)

-- the replica that was set, and the others
pub replica_set : {X : Type 0} (rs : List X) (m : ℕ) (r : X) → m < length rs → slice_get (slice_set rs m r) m ≡ Some r
replica_set rs m r within = slice_get-get_or (slice_set rs m r) m r (omega (arith, length-set rs m r, within))
    ∙ ap Some (get_or-set_same rs m r r within)

-- and the others stay
pub replica_kept : {X : Type 0} (rs : List X) (m k : ℕ) (r : X) → k ≢ m
    → slice_get (slice_set rs m r) k ≡ slice_get rs k
replica_kept rs m k r other = elim (cases_lt k (length rs)) [
  | inl within ↦ slice_get-get_or (slice_set rs m r) k r (omega (arith, length-set rs m r))
      ∙ ap Some (get_or-set_other rs m k r r other) ∙ sym (slice_get-get_or rs k r within)
  | inr past ↦ slice_get_past (slice_set rs m r) k (omega (arith, length-set rs m r)) ∙ sym (slice_get_past rs k past)
]

pub at_most_each : (f : ℕ → ℕ) (xs : List ℕ) (top i : ℕ) → i < length xs
    → fold min top (map f xs) ≤ f (slice_index xs i)
at_most_each f [] top i l = absurd (omega arith)
at_most_each f (x ∷ xs) top zero l = omega (arith, at_most (min top (f x)) (map f xs))
at_most_each f (x ∷ xs) top (suc i) l = at_most_each f xs (min top (f x)) i (omega arith)

pub above_each : (x top : ℕ) (f : ℕ → ℕ) (xs : List ℕ) → x < top
    → ((i : ℕ) → i < length xs → x < f (slice_index xs i)) → x < fold min top (map f xs)
above_each x top f [] l each = l
above_each x top f (y ∷ ys) l each = above_each x (min top (f y)) f ys (omega (arith, l, each 0 (omega arith)))
    (λ i below. each (suc i) (omega (arith, below)))

-- every element of a list of copies is the copy, also past its end
pub copy_at : {X : Type 0} (n : ℕ) (x : X) (i : ℕ) → slice_index_or (replicate n x) i x ≡ x
copy_at n x i = elim (cases_lt i n) [
  | inl within ↦ get_or-replicate n i x x within
  | inr past ↦ get_or_past (replicate n x) i x (omega (arith, length-replicate n x))
]

-- nothing is greater than what nothing in the list is greater than
pub greatest_within : (xs : List ℕ) (a b : ℕ) → a ≤ b → ((i : ℕ) → slice_index xs i ≤ b) → fold max a xs ≤ b
greatest_within [] a b l each = l
greatest_within (x ∷ xs) a b l each = greatest_within xs (max a x) b (omega (arith, l, each 0)) (λ i. each (suc i))

-- no value has parts other than 0
pub no_trim : (k s : ℕ) → slice_index (replicate k 0) s ≡ 0
no_trim k s = elim (cases_lt s k) [
  | inl l ↦ get_or-replicate k s 0 0 l
  | inr h ↦ get_or_past (replicate k 0) s 0 (omega (arith, h, length-replicate {A = ℕ} k 0))
]

-- what holds of all messages holds of each
pub each_at : (P : List ℕ → Type 0) (lists : List (List (List ℕ))) (s i : ℕ) (bytes : List ℕ) → All (All P) lists
    → slice_get (get_or lists s []) i ≡ Some bytes → P bytes
each_at P lists s i bytes all e = by (cases_lt s (length lists))
  where
    by : (s < length lists) ⊎ (length lists ≤ s) → P bytes
    by (inl l) = subst P (get_or_from_slice_get (get_or lists s []) i bytes [] e)
        (all s [] l i [] (slice_get_within (get_or lists s []) i bytes e))
    by (inr l) = let none : slice_get {X = List ℕ} [] i
        ≡ Some bytes = subst (λ xs. slice_get xs i ≡ Some bytes) (default_past lists s [] l) e in
        absurd (omega (arith, slice_get_within {A = List ℕ} [] i bytes none))

-- each byte is one
pub byte_at : (bytes : List ℕ) (k : ℕ) → All (λ byte. byte < 256) bytes → slice_index bytes k < 256
byte_at bytes k all = by (cases_lt k (length bytes))
  where
    by : (k < length bytes) ⊎ (length bytes ≤ k) → slice_index bytes k < 256
    by (inl l) = all k 0 l
    by (inr l) = rw (default_past bytes k 0 l) (omega arith)

-- where the totals before one are counts of messages, and its own is set so, they are so up to it
pub counted_more : (totals : List ℕ) (lists : List (List (List ℕ))) (i x : ℕ) → i < length totals
    → x ≡ length (slice_index_or lists i [])
    → ((k : ℕ) → k < i → get_or totals k 0 ≡ length (slice_index_or lists k [])) → (k : ℕ)
    → k < i + 1 → get_or (set totals i x) k 0 ≡ length (slice_index_or lists k [])
counted_more totals lists i x within is counted =
    subst (λ y. (k : ℕ) → k < i + 1 → get_or (set totals i y) k 0 ≡ length (slice_index_or lists k [])) (sym is)
    (fill_by_more (λ k. length (slice_index_or lists k [])) totals i 0 within counted)

-- sixteen totals, that count each list and are 0 behind them, are the totals of the lists
pub all_counted : (totals : List ℕ) (lists : List (List (List ℕ))) → length totals ≡ 16
    → ((k : ℕ) → k < length lists → get_or totals k 0 ≡ length (slice_index_or lists k []))
    → ((k : ℕ) → length lists ≤ k → get_or totals k 0 ≡ 0)
    → totals ≡ map (λ i. length (slice_index_or lists i [])) (range_with_len 0 16)
all_counted totals lists sixteen counted rest = fill_by_all (λ i. length
    (slice_index_or lists i [])) totals 16 0 sixteen (λ k within. elim (cases_lt k (length lists)) [
      | inl here ↦ counted k here
      | inr past ↦ rest k past ∙ sym (ap length (get_or_past lists k [] past))
    ])

-- one more number in a list
pub one_more : (list : List ℕ) (f : ℕ → ℕ) (k x : ℕ) → k < length list → x ≡ f k
    → ((i : ℕ) → i < k → slice_index list i ≡ f i) → (i : ℕ) → i < k + 1 → slice_index (set list k x) i ≡ f i
one_more list f k x within is before i lt = elim (cases_lt i k) [
  | inl early ↦ get_or-set_other list k i x 0 (λ e. absurd (omega (arith, early, e))) ∙ before i early
  | inr late ↦
      let here : i ≡ k = omega (arith, lt, late) in
      ap (λ (j : ℕ). slice_index (set list k x) j) here ∙ get_or-set_same list k x 0 within ∙ is ∙ ap f (sym here)
]

-- what is in a place of a list that was gone through
pub mapped_at : {X Y : Type 0} (f : X → Y) (xs : List (Option X)) (m : ℕ)
    → slice_index_or (map (option_map f) xs) m None ≡ option_map f (slice_index_or xs m None)
mapped_at {X} {Y} f xs m = ⊎_elim (λ (l : m < length xs). get_or-map (option_map f) xs m None None l)
    (λ (g : length xs ≤ m). get_or_past (map (option_map f) xs) m None
    (omega (arith, g, length-map xs (option_map f))) ∙ ap (option_map f) (sym (get_or_past xs m None g)))
    (cases_lt m (length xs))

-- a place that is not empty is one of the list
pub within_places : {X : Type 0} (xs : List (Option X)) (m : ℕ) (x : X) → slice_index_or xs m None ≡ Some x
    → m < length xs
within_places xs m x at = ⊎_elim (λ (l : m < length xs). l)
    (λ (g : length xs ≤ m). absurd (let e = sym (get_or_past xs m None g) ∙ at in cc)) (cases_lt m (length xs))

-- what passes, passes
pub passes : (p : ℕ → Bool) (xs : List ℕ) (j : ℕ) → j < length (filter p xs) → p (slice_index (filter p xs) j) ≡ true
passes p [] j within = absurd (omega arith)
passes p (x ∷ xs) j within = by (p x) refl j within (passes p xs)
  where
    by : (b : Bool) → p x ≡ b → (i : ℕ) → i < length (cond b (x ∷ filter p xs) (filter p xs))
        → ((k : ℕ) → k < length (filter p xs) → p (slice_index (filter p xs) k) ≡ true)
        → p (slice_index (cond b (x ∷ filter p xs) (filter p xs)) i) ≡ true
    by true e zero h each = e
    by true e (suc i) h each = each i (omega arith)
    by false e i h each = each i h

-- what passes is no less than where the range begins
passes_above : (p : ℕ → Bool) (a n j : ℕ) → j < length (filter p (range_with_len a n)) → a
    ≤ slice_index (filter p (range_with_len a n)) j
passes_above p a zero j within = absurd (omega arith)
passes_above p a (suc n) j within = by (p a) j within
    (λ i h. let above : a + 1 ≤ slice_index (filter p (range_with_len (a + 1) n)) i =
    passes_above p (a + 1) n i h in omega arith)
  where
    by : (b : Bool) (i : ℕ) → i < length (cond b (a ∷ filter p (range_with_len (a + 1) n))
        (filter p (range_with_len (a + 1) n))) → ((k : ℕ) → k < length (filter p (range_with_len (a + 1) n)) → a
        ≤ slice_index (filter p (range_with_len (a + 1) n)) k)
        → a ≤ slice_index (cond b (a ∷ filter p (range_with_len (a + 1) n)) (filter p (range_with_len (a + 1) n))) i
    by true zero h above = le_refl a
    by true (suc i) h above = above i (omega arith)
    by false i h above = above i h

-- a test that one of those that passed now fails, and no other: it is taken out
pub one_fails : (p q : ℕ → Bool) (m a n j : ℕ) → q m ≡ false → ((k : ℕ) → k ≢ m → q k ≡ p k)
    → j < length (filter p (range_with_len a n)) → m ≡ slice_index (filter p (range_with_len a n)) j
    → filter q (range_with_len a n) ≡ remove (filter p (range_with_len a n)) j
one_fails p q m a zero j fails same within at = absurd (omega arith)
one_fails p q m a (suc n) j fails same within at =
    by (p a) refl j within at (one_fails p q m (a + 1) n) (passes_above p (a + 1) n)
  where
    by : (b : Bool) → p a ≡ b → (i : ℕ) → i < length (cond b (a ∷ filter p (range_with_len (a + 1) n))
        (filter p (range_with_len (a + 1) n))) → m ≡ slice_index (cond b (a ∷ filter p (range_with_len (a + 1) n))
        (filter p (range_with_len (a + 1) n))) i → ((k : ℕ) → q m ≡ false → ((k : ℕ) → k ≢ m → q k ≡ p k) → k
        < length (filter p (range_with_len (a + 1) n)) → m ≡ slice_index (filter p (range_with_len (a + 1) n)) k
        → filter q (range_with_len (a + 1) n) ≡ remove (filter p (range_with_len (a + 1) n)) k)
        → ((k : ℕ) → k < length (filter p (range_with_len (a + 1) n)) → a + 1
        ≤ slice_index (filter p (range_with_len (a + 1) n)) k)
        → cond (q a) (a ∷ filter q (range_with_len (a + 1) n)) (filter q (range_with_len (a + 1) n))
        ≡ remove (cond b (a ∷ filter p (range_with_len (a + 1) n)) (filter p (range_with_len (a + 1) n))) i
    by true e zero h here rest above =
        ap (λ b. cond b (a ∷ filter q (range_with_len (a + 1) n)) (filter q (range_with_len (a + 1) n)))
        (ap q (sym here) ∙ fails) ∙ agree_above p q (a + 1) n (λ k l. same k (λ e. absurd (omega arith)))
    by true e (suc i) h here rest above =
        let least : a + 1 ≤ slice_index (filter p (range_with_len (a + 1) n)) i = above i (omega arith) in
        ap (λ b. cond b (a ∷ filter q (range_with_len (a + 1) n)) (filter q (range_with_len (a + 1) n)))
        (same a (λ e. absurd (omega arith)) ∙ e) ∙ ap (λ xs. a ∷ xs) (rest i fails same (omega arith) here)
    by false e i h here rest above =
        let least : a + 1 ≤ slice_index (filter p (range_with_len (a + 1) n)) i = above i h in
        ap (λ b. cond b (a ∷ filter q (range_with_len (a + 1) n)) (filter q (range_with_len (a + 1) n)))
        (same a (λ e. absurd (omega arith)) ∙ e) ∙ rest i fails same h here

pub set_twice : {A : Type 0} (xs : List A) (i : ℕ) (a b : A) → slice_set (slice_set xs i a) i b ≡ slice_set xs i b
set_twice [] i a b = refl
set_twice (x ∷ xs) zero a b = refl
set_twice (x ∷ xs) (suc i) a b = ap (λ ys. x ∷ ys) (set_twice xs i a b)

-- the seats keep as many places
pub places_cut : {X : Type 0} (views : List (List X)) (id at : ℕ) (v : List X) → slice_get views id ≡ Some v
    → sum_by length (slice_set views id (take at v) ++ drop at v ∷ []) ≡ sum_by length views
places_cut views id at v is = omega (
  arith,
  sum_by-append length (slice_set views id (take at v)) (drop at v ∷ []),
  sum_by-cons length (drop at v) [],
  sum_by-set length views id (take at v) v (slice_get_within views id v is),
  ap length (get_or_from_slice_get views id v v is),
  parts_long at v,
)

pub places_joined : {X : Type 0} (views : List (List X)) (id : ℕ) (v : List X) (other : ℕ) (w : List X)
    → slice_get views id ≡ Some v → slice_get (slice_set views id (v ++ w)) other ≡ Some w
    → sum_by length (slice_set (slice_set views id (v ++ w)) other []) ≡ sum_by length views
places_joined views id v other w is there =
    let both = slice_set views id (v ++ w) in omega (
      arith,
      sum_by-set length views id (v ++ w) v (slice_get_within views id v is),
      ap length (get_or_from_slice_get views id v v is),
      length-append v w,
      sum_by-set length both other [] w (slice_get_within both other w there),
      ap length (get_or_from_slice_get both other w w there),
    )

-- the element by the table's reading of a list
pub by_table : {X : Type 0} (xs : List X) (i : ℕ) (x : X) → get_elem? xs i ≡ some x → slice_get xs i ≡ Some x
by_table [] i x e = absurd (some-ne-none x (sym e))
by_table (y ∷ ys) zero x e = ap (λ z. Some z) (some-injective y x e)
by_table (y ∷ ys) (suc i) x e = by_table ys i x e

-- an element of a list in which one was replaced is the new one, or as it was
pub at_set : {X : Type 0} (xs : List X) (i j : ℕ) (x y : X) → slice_get (slice_set xs i x) j ≡ Some y
    → ((j ≡ i) × (x ≡ y)) ⊎ ((j ≢ i) × (slice_get xs j ≡ Some y))
at_set [] i j x y e = absurd (cc)
at_set (z ∷ zs) zero zero x y e = inl (refl, same_Some x y e)
at_set (z ∷ zs) zero (suc j) x y e = inr ((λ h. omega arith), e)
at_set (z ∷ zs) (suc i) zero x y e = inr ((λ h. omega arith), e)
at_set (z ∷ zs) (suc i) (suc j) x y e = elim (at_set zs i j x y e) [
  | inl here ↦ inl (ap suc here.0, here.1)
  | inr other ↦ let apart = other.0 in inr ((λ h. apart (omega arith)), other.1)
]

-- an element that is there may be replaced by itself
pub set_again : {X : Type 0} (xs : List X) (i : ℕ) (x : X) → slice_get xs i ≡ Some x → slice_set xs i x ≡ xs
set_again [] i x e = refl
set_again (y ∷ ys) zero x e = ap (λ z. z ∷ ys) (sym (same_Some y x e))
set_again (y ∷ ys) (suc i) x e = ap (λ zs. y ∷ zs) (set_again ys i x e)

-- one replaced by another that counts as much leaves the sum
pub sum_again : {X : Type 0} (f : X → ℕ) (xs : List X) (i : ℕ) (x y : X) → slice_get xs i ≡ Some x → f y ≡ f x
    → sum_by f (slice_set xs i y) ≡ sum_by f xs
sum_again f xs i x y there same = omega (
  arith,
  same,
  ap f (get_or_from_slice_get xs i x x there),
  sum_by-set f xs i y x (slice_get_within xs i x there),
)

-- a number that stands in a list stands there too with others behind it
pub front_read : (xs ys : List ℕ) (i : ℕ) → i < length xs → slice_index (xs ++ ys) i ≡ slice_index xs i
front_read xs ys i within = get_or_append_left xs ys 0 i within

pub front_set : (xs ys : List ℕ) (i x : ℕ) → i < length xs → slice_set (xs ++ ys) i x ≡ slice_set xs i x ++ ys
front_set xs ys i x within = set-append_left xs ys i x within

-- those behind it stand so much later
pub behind_read : (xs ys : List ℕ) (i j : ℕ) → i ≡ length xs + j → slice_index (xs ++ ys) i ≡ slice_index ys j
behind_read xs ys i j is =
    let at : i - length xs ≡ j = omega (arith, is) in
    get_or-append_right xs ys (length xs) i 0 refl (omega (arith, is)) ∙ ap (slice_index ys) at

pub behind_set : (xs ys : List ℕ) (i j x : ℕ) → i ≡ length xs + j → slice_set (xs ++ ys) i x ≡ xs ++ slice_set ys j x
behind_set xs ys i j x is =
    let at : i - length xs ≡ j = omega (arith, is) in
    set-append_right xs ys (length xs) i x refl (omega (arith, is)) ∙ ap (λ k. xs ++ slice_set ys k x) at

-- what the table reads in a list is within it
pub slot_within : {X : Type 0} (xs : List X) (i : ℕ) (x : X) → get_elem? xs i ≡ some x → i < length xs
slot_within xs i x there = slice_get_within xs i x (by_table xs i x there)

-- lists of so many elements, one by one
pub pick : {A : Type 0} (P : ℕ → A → Type 0) (n : ℕ) → ((m : ℕ) → m < n → (x : A) × P m x)
    → (xs : List A) × (length xs ≡ n) × ((m : ℕ) (x : A) → slice_get xs m ≡ Some x → P m x)
pick P zero each = ([], refl, λ m x at. absurd (none-some x at))
pick {A} P (suc n) each =
    let x = each 0 (omega arith) in
    let rest = pick (λ m. P (suc m)) n (λ m l. each (suc m) (omega (arith, l))) in
    (x.0 ∷ rest.0, ap suc rest.1, λ m y at. by m y x.0 x.1 rest.0 rest.2 at)
  where
    by : (m : ℕ) (y x : A) → P 0 x → (xs : List A) → ((i : ℕ) (z : A) → slice_get xs i ≡ Some z → P (suc i) z)
        → slice_get (x ∷ xs) m ≡ Some y → P m y
    by zero y x is xs others at = subst (P 0) (same_Some x y at) is
    by (suc i) y x is xs others at = others i y at

pub range_more : (a n : ℕ) → range_with_len a (n + 1) ≡ range_with_len a n ++ (a + n) ∷ []
range_more a zero = moved (range_with_len a) (zero + 1) 1 (omega arith)
    ∙ moved (λ x. x ∷ []) a (a + zero) (omega arith)
range_more a (suc n) = moved (range_with_len a) (suc n + 1) (suc (n + 1)) (omega arith) ∙ ap (λ xs. a ∷ xs)
    (range_more (a + 1) n ∙ moved (λ x. range_with_len (a + 1) n ++ x ∷ []) (a + 1 + n) (a + suc n) (omega arith))

-- what is true of each element, and of none
pub any_or : {X : Type 0} (P : List X → Type 0) (xs : List (List X)) (m : ℕ) → All P xs → P []
    → P (slice_index_or xs m [])
any_or P [] m all none = none
any_or P (x ∷ xs) zero all none = all 0 [] (omega arith)
any_or P (x ∷ xs) (suc m) all none = any_or P xs m (λ k d within. all (suc k) d (omega arith)) none

-- what is in each place of a list, one of which was put behind it
pub pushed_cases : {X : Type 0} (xs : List (Option X)) (y : Option X) (m n : ℕ) → length xs ≡ n → m < n + 1
    → ((m < n) × (slice_index_or (xs ++ y ∷ []) m None ≡ slice_index_or xs m None))
    ⊎ ((m ≡ n) × (slice_index_or (xs ++ y ∷ []) m None ≡ y))
pushed_cases xs y m n long below = by (cases_lt m n)
  where
    by : (m < n) ⊎ (n ≤ m) → ((m < n) × (slice_index_or (xs ++ y ∷ []) m None ≡ slice_index_or xs m None))
        ⊎ ((m ≡ n) × (slice_index_or (xs ++ y ∷ []) m None ≡ y))
    by (inl less) = inl (less, get_or_append_left xs (y ∷ []) None m (omega (arith, less, long)))
    by (inr more) =
        let same : n ≡ m = omega (arith, below, more) in inr (sym same, get_or_push xs y None m (long ∙ same))

-- an element of the first ones is that of the list
pub slice_get-take : {X : Type 0} (n : ℕ) (xs : List X) (i : ℕ) → i < n → slice_get (take n xs) i ≡ slice_get xs i
slice_get-take zero xs i l = absurd (omega arith)
slice_get-take (suc n) [] i l = refl
slice_get-take (suc n) (x ∷ xs) zero l = refl
slice_get-take (suc n) (x ∷ xs) (suc i) l = slice_get-take n xs i (omega arith)

-- the count of a rank
pub count-rank : (counts : ℕ → ℕ) (ms : List ℕ) (rank s : ℕ) → slice_get ms rank ≡ Some s
    → slice_index (map counts ms) rank ≡ counts s
count-rank counts ms rank s e = get_or-map counts ms rank 0 0 (slice_get_within ms rank s e)
    ∙ ap counts (get_or_from_slice_get ms rank s 0 e)

-- an element of the front part
pub slice_get-left : {X : Type 0} (xs ys : List X) (i : ℕ) → i < length xs → slice_get (xs ++ ys) i ≡ slice_get xs i
slice_get-left [] ys i l = absurd (omega arith)
slice_get-left (x ∷ xs) ys zero l = refl
slice_get-left (x ∷ xs) ys (suc i) l = slice_get-left xs ys i (omega arith)

-- the elements up to and with one
pub take-next : {X : Type 0} (xs : List X) (i : ℕ) (x : X) → slice_get xs i ≡ Some x
    → take (i + 1) xs ≡ take i xs ++ x ∷ []
take-next xs i x e = take_more xs i x (slice_get_within xs i x e)
    ∙ ap (λ y. take i xs ++ y ∷ []) (get_or_from_slice_get xs i x x e)

-- within a list there is an element
pub slice_get-some : {X : Type 0} (xs : List X) (i : ℕ) → i < length xs → (x : X) × (slice_get xs i ≡ Some x)
slice_get-some [] i l = absurd (omega arith)
slice_get-some (x ∷ xs) zero l = (x, refl)
slice_get-some (x ∷ xs) (suc i) l = slice_get-some xs i (omega arith)

-- the element behind the front part
pub slice_get-seam : {X : Type 0} (xs : List X) (y : X) (ys : List X) → slice_get (xs ++ y ∷ ys) (length xs) ≡ Some y
slice_get-seam [] y ys = refl
slice_get-seam (x ∷ xs) y ys = slice_get-seam xs y ys

-- an element of a list with one more is an old one or the last
pub slice_get-push_cases : {X : Type 0} (xs : List X) (y x : X) (i : ℕ) → slice_get (xs ++ y ∷ []) i ≡ Some x
    → ((i < length xs) × (slice_get xs i ≡ Some x)) ⊎ ((i ≡ length xs) × (y ≡ x))
slice_get-push_cases xs y x i e = by (within (slice_get_within (xs ++ y ∷ []) i x e))
  where
    within : i < length (xs ++ y ∷ []) → (i < length xs) ⊎ (i ≡ length xs)
    within l = grind (arith, length-append xs (y ∷ []))

    by : (i < length xs) ⊎ (i ≡ length xs) → ((i < length xs) × (slice_get xs i ≡ Some x))
        ⊎ ((i ≡ length xs) × (y ≡ x))
    by (inl l) = inl (l, sym (slice_get-left xs (y ∷ []) i l) ∙ e)
    by (inr at) = inr (
      at,
      same_Some y x (sym (slice_get-seam xs y []) ∙ (ap (slice_get (xs ++ y ∷ [])) (sym at) ∙ e)),
    )

-- an element is in the list
pub Contains-slice_get : {X : Type 0} (xs : List X) (i : ℕ) (x : X) → slice_get xs i ≡ Some x → Contains xs x
Contains-slice_get xs i x e = (i, slice_get_within xs i x e, get_or_from_slice_get xs i x x e)

-- one more number that is none of them
pub AreDistinct-push : (xs : List ℕ) (y : ℕ) → AreDistinct xs
    → ((i : ℕ) → slice_get xs i ≡ Some y → ⊥) → AreDistinct (xs ++ y ∷ [])
AreDistinct-push xs y distinct other i j x at_i at_j =
    by (slice_get-push_cases xs y x i at_i) (slice_get-push_cases xs y x j at_j)
  where
    by : ((i < length xs) × (slice_get xs i ≡ Some x)) ⊎ ((i ≡ length xs) × (y ≡ x))
        → ((j < length xs) × (slice_get xs j ≡ Some x)) ⊎ ((j ≡ length xs) × (y ≡ x)) → i ≡ j
    by (inl f) (inl g) = distinct i j x f.1 g.1
    by (inl f) (inr g) = absurd (other i (f.1 ∙ ap Some (sym g.1)))
    by (inr f) (inl g) = absurd (other j (g.1 ∙ ap Some (sym f.1)))
    by (inr f) (inr g) = f.0 ∙ sym g.0

-- a member's rank is its position
pub position-rank : (xs : List ℕ) (rank s : ℕ) → AreDistinct xs → slice_get xs rank ≡ Some s
    → position (λ m. m == s) xs ≡ Some rank
position-rank xs rank s distinct at = position_found (λ m. m == s) xs rank 0 within (λ j l. ne_eqb (get_or xs j 0) s
    (λ e. omega (arith, l, distinct j rank s (slice_get-get_or xs j 0 (omega (arith, l, within)) ∙ ap Some e) at)))
    (eq-eqb (get_or xs rank 0) s (get_or_from_slice_get xs rank s 0 at))
  where
    within : rank < length xs
    within = slice_get_within xs rank s at

-- a number above one of the counts is none of the greatest
pub behind_some : (k most : ℕ) (counts : List ℕ) → ((s : ℕ) → slice_index counts s ≤ most)
    → list_any (nat_lt k) counts ≡ true → k < most
behind_some k most [] bounded e = absurd (cc)
behind_some k most (x ∷ xs) bounded e = elim (or_cases (nat_lt k x) (list_any (nat_lt k) xs) e) [
  | inl here ↦ omega (arith, ltb-true k x here, bounded 0)
  | inr there ↦ behind_some k most xs (λ s. bounded (suc s)) there
]

-- some number of a list is above k
pub above_some : (k : ℕ) (xs : List ℕ) → list_any (nat_lt k) xs ≡ true → (s : ℕ) × (k < slice_index xs s)
above_some k [] e = absurd (cc)
above_some k (x ∷ xs) e = elim (or_cases (nat_lt k x) (list_any (nat_lt k) xs) e) [
  | inl here ↦ (0, ltb-true k x here)
  | inr there ↦ let t = above_some k xs there in (suc t.0, t.1)
]

-- no element is above the greatest, nor the default
pub most : (xs : List ℕ) (i : ℕ) → slice_index xs i ≤ fold max 0 xs
most xs i = elim (cases_lt i (length xs)) [
  | inl within ↦ count_max xs 0 i within
  | inr past ↦ omega (arith, get_or_past xs i 0 past)
]

-- an element of a list that passes is below the bound, as is the default
pub element_below : (n : ℕ) (xs : List ℕ) (k : ℕ) → 1 ≤ n → list_all (λ i. nat_lt i n) xs
    ≡ true → slice_index xs k < n
element_below n [] k large all = omega (arith, large)
element_below n (x ∷ xs) zero large all =
    grind (arith, nat_tests, and_parts (nat_lt x n) (list_all (λ i. nat_lt i n) xs) all)
element_below n (x ∷ xs) (suc k) large all =
    element_below n xs k large (and_parts (nat_lt x n) (list_all (λ i. nat_lt i n) xs) all).1

-- a count that rises lowers the sum of what is left up to the greatest
pub items_less : (most : ℕ) (counts : List ℕ) (s : ℕ) → s < length counts → slice_index counts s < most
    → sum_by (λ count. most - count) (slice_set counts s (slice_index counts s + 1)) < sum_by
    (λ count. most - count) counts
items_less most counts s within below =
    omega (arith, sum_by-set (λ (count : ℕ). most - count) counts s (slice_index counts s + 1) 0 within)

-- and it never raises that sum
pub items_no_more : (most : ℕ) (counts : List ℕ) (s : ℕ) → sum_by (λ count. most - count) (slice_set counts s
    (slice_index counts s + 1)) ≤ sum_by (λ count. most - count) counts
items_no_more most counts s = elim (cases_lt s (length counts)) [
  | inl within ↦ omega (arith, sum_by-set (λ (count : ℕ). most - count) counts s (slice_index counts s + 1) 0 within)
  | inr past ↦ rw (set_past counts s (slice_index counts s + 1) past) (le_refl _)
]

pub get_more : {A : Type 0} (xs ys : List A) (k : ℕ) (x : A) → slice_get xs k ≡ Some x
    → slice_get (xs ++ ys) k ≡ Some x
get_more [] ys k x e = absurd (cc)
get_more (y ∷ xs) ys zero x e = e
get_more (y ∷ xs) ys (suc k) x e = get_more xs ys k x e

-- an element of a list with one more at its end is in the list, or is the new one
pub get_one : {A : Type 0} (xs : List A) (y : A) (k : ℕ) (x : A) → slice_get (xs ++ y ∷ []) k ≡ Some x
    → (slice_get xs k ≡ Some x) ⊎ (x ≡ y)
get_one [] y zero x e = inr (cc)
get_one [] y (suc k) x e = absurd (cc)
get_one (z ∷ xs) y zero x e = inl e
get_one (z ∷ xs) y (suc k) x e = get_one xs y k x e

pub get_last : {A : Type 0} (xs : List A) (y : A) → (k : ℕ) × (slice_get (xs ++ y ∷ []) k ≡ Some y)
get_last [] y = (0, refl)
get_last (z ∷ xs) y = let rest = get_last xs y in (suc rest.0, rest.1)

-- somebody stays, so it has members of the roster
pub some_of : (xs : List ℕ) → 0 < length xs → (x : ℕ) × (slice_get xs 0 ≡ Some x)
some_of [] l = absurd (omega (arith, l))
some_of (x ∷ xs) l = (x, refl)

-- an element of a range
pub range_at : (a n k : ℕ) → k < n → slice_get (range_with_len a n) k ≡ Some (a + k)
range_at a n k l = slice_get-get_or (range_with_len a n) k 0 (omega (arith, l, length-range_with_len a n))
    ∙ ap Some (get_or-range_with_len a n k 0 l)

-- no element passes a test that none passes
pub none_at : {A : Type 0} (test : A → Bool) (xs : List A) (k : ℕ) (d : A) → list_any test xs ≡ false
    → k < length xs → test (slice_index_or xs k d) ≡ false
none_at test xs k d none within = by (test (slice_index_or xs k d)) refl
  where
    by : (b : Bool) → test (slice_index_or xs k d) ≡ b → test (slice_index_or xs k d) ≡ false
    by false e = e
    by true e = absurd (cc (list_any_at test xs k d within e, none))

pub read-in : {A : Type 0} (xs : List A) (x : A) → Contains xs x → (k : ℕ) × (slice_get xs k ≡ Some x)
read-in xs x c = (c.0, slice_get-get_or xs c.0 x c.1 ∙ ap Some c.2)

-- a list around one of its elements
pub around : {X : Type 0} (xs : List X) (k : ℕ) (x : X) → slice_get xs k ≡ Some x
    → xs ≡ take k xs ++ x ∷ drop (k + 1) xs
around xs k x at = sym (take-append-drop (k + 1) xs)
    ∙ (ap (λ l. l ++ drop (k + 1) xs) (take-next xs k x at) ∙ append_assoc (take k xs) (x ∷ []) (drop (k + 1) xs))

unfoldable pub both : {A B C : Type 0} → Option (A → B) → Option (B → C) → Option (A → C)
both (Some f) (Some h) = Some (λ x. h (f x))
both f h = None

-- all counts and beats are 0
pub zero_at : (i : ℕ) → slice_index (replicate MAX_MEMBERS 0) i ≡ 0
zero_at i = by (cases_lt i 16)
  where
    none : ℕ
    none = 0

    by : (i < 16) ⊎ (16 ≤ i) → slice_index (replicate MAX_MEMBERS 0) i ≡ 0
    by (inl l) = get_or-replicate 16 i none none l
    by (inr past) = get_or_past (replicate 16 none) i none (omega (arith, past, length-replicate 16 none))

-- a word that is read at an index is the one that stands there
pub found : (words : List ℕ) (index word : ℕ) → index < length words → word ≡ get_or words index word
    → word ≡ slice_index words index
found words index word within read = read ∙ sym (get_or_default words index 0 word within)
