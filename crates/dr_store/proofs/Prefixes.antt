-- The keys that begin with a prefix stand together: at the first one that is not below it, and those behind.
use Rattle.std.specs.{List.{AllByRecursion, cons_option, starts_with, Sorted.IsStrictlySortedBy}, Map.keys_of}
use Rattle.std.specs.{Ordering.is_le, Prelude.{Option, None, Some, filter, filter_map, nat_eq, option_map, Vec}}
use Rattle.std.specs.declared.{alloc.Global.Global, cmp.Ordering.TheVariants.Less}
use Rattle.std.proofs.Common.{◌≡◌, ℕ, Bool, true, false, cond, ◌&&◌, List, [], ◌∷◌, ◌++◌, refl, ap, sym, subst, ◌∙◌, append-nil, append_assoc}
use Rattle.dr_entry.proofs.{BoolFacts.and_true, ListFacts.{by_bytes, below_not, begins-between}}
use Rattle.dr_store.specs.{Stock.{found_at, value_by}, Tables.{KeyTable, listed}, declared.changes.Change.Change}

-- what a scan finds among the entries that are not below the prefix
abbrev pub from_prefix : List ℕ → KeyTable → KeyTable
from_prefix p es = filter (λ e. is_le (by_bytes p e.0.items)) es

-- a key that doesn't begin with the prefix isn't found
not_found : (p : List ℕ) (v : ℕ) (e : List ℕ × List Change) → starts_with nat_eq e.0 p ≡ false → found_at p v e ≡ None
not_found p v e apart = ap (λ b. cond b (option_map (λ value. (e.0, value)) (value_by v e.1)) None) apart

-- below the prefix nothing is found
pub found_from : (p : List ℕ) (v : ℕ) (es : KeyTable)
    → filter_map (found_at p v) (listed (from_prefix p es)) ≡ filter_map (found_at p v) (listed es)
found_from p v [] = refl
found_from p v (e ∷ es) = elim (is_le (by_bytes p e.0.items)) as (λ b. is_le (by_bytes p e.0.items) ≡ b
    → filter_map (found_at p v) (listed (cond b (e ∷ from_prefix p es) (from_prefix p es))) ≡ cons_option
    (found_at p v (e.0.items, e.1)) (filter_map (found_at p v) (listed es))) [
      | true ↦ λ _. ap (cons_option (found_at p v (e.0.items, e.1))) (found_from p v es)
      | false ↦ λ below. found_from p v es ∙ ap (λ x. cons_option x (filter_map (found_at p v) (listed es)))
          (sym (not_found p v (e.0.items, e.1) (below_not p e.0.items below)))
    ] refl

-- the keys ascend, and none is below the prefix
pub record IsFrom (p : List ℕ) (es : KeyTable) : Type 0 where
  pub sorted : IsStrictlySortedBy (λ (x y : Vec ℕ Global). by_bytes x.items y.items) (keys_of es)
  pub low : AllByRecursion (λ (y : Vec ℕ Global). is_le (by_bytes p y.items) ≡ true) (keys_of es)

pub IsFrom-rest : (p : List ℕ) (e : Vec ℕ Global × List Change) (es : KeyTable) → IsFrom p (e ∷ es) → IsFrom p es
unfolding IsStrictlySortedBy
IsFrom-rest p e es from = record { sorted = from.sorted.1; low = from.low.1 }

-- behind a key that doesn't begin with the prefix nothing is found
above_none : (p : List ℕ) (v : ℕ) (k : Vec ℕ Global) (es : KeyTable) → is_le (by_bytes p k.items) ≡ true
    → starts_with nat_eq k.items p ≡ false
    → AllByRecursion (λ (y : Vec ℕ Global). by_bytes k.items y.items ≡ Less) (keys_of es)
    → filter_map (found_at p v) (listed es) ≡ []
above_none p v k [] low apart above = refl
above_none p v k (e ∷ es) low apart above = ap (λ x. cons_option x (filter_map (found_at p v) (listed es)))
    (not_found p v (e.0.items, e.1)
    (elim (starts_with nat_eq e.0.items p) as (λ b. starts_with nat_eq e.0.items p ≡ b → b ≡ false) [
      | true ↦ λ begins. absurd (cc (sym (begins-between p k.items e.0.items low above.0 begins) ∙ apart))
      | false ↦ λ _. refl
    ] refl)) ∙ above_none p v k es low apart above.1

pub found_none : (p : List ℕ) (v : ℕ) (e : Vec ℕ Global × List Change) (es : KeyTable) → IsFrom p (e ∷ es)
    → starts_with nat_eq e.0.items p ≡ false → filter_map (found_at p v) (listed (e ∷ es)) ≡ []
unfolding IsStrictlySortedBy
found_none p v e es from apart = ap (λ x. cons_option x (filter_map (found_at p v) (listed es)))
    (not_found p v (e.0.items, e.1) apart) ∙ above_none p v e.0 es from.low.0 apart from.sorted.0

still_above : (p : List ℕ) (k : Vec ℕ Global) (es : KeyTable)
    → AllByRecursion (λ (y : Vec ℕ Global). by_bytes k.items y.items ≡ Less) (keys_of es)
    → AllByRecursion (λ (y : Vec ℕ Global). by_bytes k.items y.items ≡ Less) (keys_of (from_prefix p es))
still_above p k [] above = above
still_above p k (e ∷ es) above = elim (is_le (by_bytes p e.0.items)) as
    (λ b. AllByRecursion (λ (y : Vec ℕ Global). by_bytes k.items y.items ≡ Less)
    (keys_of (cond b (e ∷ from_prefix p es) (from_prefix p es)))) [
      | true ↦ (above.0, still_above p k es above.1)
      | false ↦ still_above p k es above.1
    ]

pub IsFrom-from_prefix : (p : List ℕ) (es : KeyTable)
    → IsStrictlySortedBy (λ (x y : Vec ℕ Global). by_bytes x.items y.items) (keys_of es) → IsFrom p (from_prefix p es)
unfolding IsStrictlySortedBy
IsFrom-from_prefix p [] sorted = record { sorted = sorted; low = tt }
IsFrom-from_prefix p (e ∷ es) sorted =
    let rest = IsFrom-from_prefix p es sorted.1 in
    elim (is_le (by_bytes p e.0.items)) as (λ b. is_le (by_bytes p e.0.items) ≡ b
    → IsFrom p (cond b (e ∷ from_prefix p es) (from_prefix p es))) [
      | true ↦ λ low. record { sorted = (still_above p e.0 es sorted.0, rest.sorted); low = (low, rest.low) }
      | false ↦ λ _. rest
    ] refl

-- what a range from the prefix on gives
pub ranged : (p : List ℕ) (es : KeyTable) → filter (λ e. is_le (by_bytes p e.0.items) && true) es ≡ from_prefix p es
ranged p [] = refl
ranged p (e ∷ es) = λ i. cond (and_true (is_le (by_bytes p e.0.items)) i) (e ∷ ranged p es i) (ranged p es i)

module _ (p : List ℕ) (v : ℕ) (xs all : List (List ℕ × List ℕ)) (left : KeyTable)
    (e : Vec ℕ Global × List Change) (rest : KeyTable) (next : left ≡ e ∷ rest)
    (so_far : xs ++ filter_map (found_at p v) (listed left) ≡ all) (from : IsFrom p left) where
  -- a scan ends at the first key that doesn't begin with the prefix
  pub scan_ends : starts_with nat_eq e.0.items p ≡ false → xs ≡ all
  scan_ends apart = sym (append-nil xs)
      ∙ ap (λ ys. xs ++ ys) (sym (ap (λ es. filter_map (found_at p v) (listed es)) next
      ∙ found_none p v e rest (subst (IsFrom p) next from) apart)) ∙ so_far

  left_now : xs ++ cons_option (found_at p v (e.0.items, e.1)) (filter_map (found_at p v) (listed rest)) ≡ all
  left_now = ap (λ es. xs ++ filter_map (found_at p v) (listed es)) (sym next) ∙ so_far

  -- it goes past a key without a value
  pub scan_skips : value_by v e.1 ≡ None → (xs ++ filter_map (found_at p v) (listed rest) ≡ all) × IsFrom p rest
  scan_skips none =
      let nothing = ap (λ x. cond (starts_with nat_eq e.0.items p) (option_map (λ value. (e.0.items, value)) x) None)
      none ∙ alike (starts_with nat_eq e.0.items p) in (
        ap (λ x. xs ++ cons_option x (filter_map (found_at p v) (listed rest))) (sym nothing) ∙ left_now,
        IsFrom-rest p e rest (subst (IsFrom p) next from),
      )
    where
      alike : (b : Bool) → ◌≡◌ {A = Option (List ℕ × List ℕ)} (cond b None None) None
      alike true = refl
      alike false = refl

  -- and takes one that has a value
  pub scan_takes : (value : List ℕ) → starts_with nat_eq e.0.items p ≡ true → value_by v e.1 ≡ Some value
      → ((xs ++ (e.0.items, value) ∷ []) ++ filter_map (found_at p v) (listed rest) ≡ all) × IsFrom p rest
  scan_takes value begins is =
      let found = ap (λ b. cond b (option_map (λ value. (e.0.items, value)) (value_by v e.1)) None) begins
      ∙ ap (option_map (λ value. (e.0.items, value))) is in (
        append_assoc xs ((e.0.items, value) ∷ []) (filter_map (found_at p v) (listed rest))
            ∙ ap (λ x. xs ++ cons_option x (filter_map (found_at p v) (listed rest))) (sym found) ∙ left_now,
        IsFrom-rest p e rest (subst (IsFrom p) next from),
      )
