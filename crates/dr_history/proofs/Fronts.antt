-- The front of counts as the first place that holds no item.
use Rattle.std.specs.{List.range_with_len, Option.option_map_or}
use Rattle.std.proofs.Common.{◌≡◌, ℕ, zero, suc, ◌+◌, ◌*◌, ◌/◌, ◌%◌, ◌<◌, ◌≤◌, Bool, true, false, not, max, cond, ◌==◌, List, [], length, fold, slice_index, nat_lt, refl, sym, subst, arith, mod-lt, ap, get_or, le_refl, map, ◌∙◌, ◌∷◌, set}
use Rattle.std.proofs.{Math.Nat.mul-div_cancel_left, lemmas.{List.{get_or-map, length-map}, Option.slice_get-get_or}}
use Rattle.std.proofs.lemmas.List.FromFn.{get_or-map-range_with_len, length-map-range_with_len}
use Rattle.dr_entry.{specs.declared.end.MemberEnd.MemberEnd, proofs.{ListFacts.counts_rise, ListPlaces.count_max}}
use Rattle.dr_history.specs.{Agreement.accounts_of, Places.{is_held, IsFront, first, front_of, AllHeldBelow}}
use Rattle.dr_history.proofs.FrontLemmas.{IsFront-least, IsFront-monotone, IsFront-only, is_held-below}

-- the first number that passes, of k from n on, is at most n + k
pub first_within : (p : ℕ → Bool) (n k : ℕ) → first p n k ≤ n + k
unfolding first
first_within p n zero = omega arith
first_within p n (suc k) = by (p n) refl (first_within p (suc n) k)
  where
    by : (b : Bool) → p n ≡ b → first p (suc n) k ≤ suc n + k → cond (p n) n (first p (suc n) k) ≤ n + suc k
    by true e h = rw e (omega arith)
    by false e h = rw e (omega (arith, h))

-- nothing before the first passes
first_before : (p : ℕ → Bool) (n k i : ℕ) → n ≤ i → i < first p n k → p i ≡ false
unfolding first
first_before p n zero i l h = absurd (omega arith)
first_before p n (suc k) i l h = by (p n) refl h (first_before p (suc n) k i)
  where
    by : (b : Bool) → p n ≡ b → i < cond (p n) n (first p (suc n) k)
        → (suc n ≤ i → i < first p (suc n) k → p i ≡ false) → p i ≡ false
    by true e g r = let g' = rw e at g in absurd (omega (arith, l, g'))
    by false e g r = let g' = rw e at g in here (i == n) refl g' r
      where
        here : (b : Bool) → (i == n) ≡ b → i < first p (suc n) k
            → (suc n ≤ i → i < first p (suc n) k → p i ≡ false) → p i ≡ false
        here true q g r = let same : i ≡ n = grind (arith, q) in rw same e
        here false q g r = r (grind (arith, q, l)) g

-- the first passes, where one of the numbers does
first_found : (p : ℕ → Bool) (n k : ℕ) → first p n k < n + k → p (first p n k) ≡ true
unfolding first
first_found p n zero h = absurd (omega arith)
first_found p n (suc k) h = by (p n) refl h (first_found p (suc n) k)
  where
    by : (b : Bool) → p n ≡ b → cond (p n) n (first p (suc n) k) < n + suc k
        → (first p (suc n) k < suc n + k → p (first p (suc n) k) ≡ true) → p (cond (p n) n (first p (suc n) k)) ≡ true
    by true e g r = rw e e
    by false e g r = let g' = rw e at g in rw e (r (omega (arith, g')))

-- every place below the front holds an item
pub front_held : (counts : List ℕ) (p : ℕ) → p < front_of counts → is_held counts p ≡ true
unfolding front_of
front_held counts p l = by (is_held counts p) refl
    (first_before (λ q. not (is_held counts q)) 0 (length counts * fold max 0 counts) p (omega arith) l)
  where
    by : (b : Bool) → is_held counts p ≡ b → not (is_held counts p) ≡ false → is_held counts p ≡ true
    by true e h = e
    by false e h = grind (arith, e, h)

-- the place behind the last round holds none
top_open : (counts : List ℕ) (m : ℕ) → 0 < length counts → ((i : ℕ) → i < length counts → slice_index counts i ≤ m)
    → is_held counts (length counts * m) ≡ false
top_open counts m l most =
    let round : length counts * m / length counts ≡ m = mul-div_cancel_left m l in
    let rank : slice_index counts (length counts * m % length counts)
    ≤ m = most (length counts * m % length counts) (mod-lt (length counts * m) l) in
    rw round (grind (arith, rank))

-- the place at the front holds none
front_open : (counts : List ℕ) → 0 < length counts → is_held counts (front_of counts) ≡ false
unfolding front_of
front_open counts l = by (nat_lt found top) refl
  where
    top : ℕ
    top = length counts * fold max 0 counts

    found : ℕ
    found = first (λ q. not (is_held counts q)) 0 top

    within : found ≤ top
    within = let h : found ≤ 0 + top = first_within (λ q. not (is_held counts q)) 0 top in omega (arith, h)

    passes : found < 0 + top → not (is_held counts found) ≡ true
    passes = first_found (λ q. not (is_held counts q)) 0 top

    opened : (b : Bool) → not b ≡ true → b ≡ false
    opened true e = sym e
    opened false e = refl

    by : (b : Bool) → nat_lt found top ≡ b → is_held counts found ≡ false
    by true e = opened (is_held counts found) (passes (grind (arith, e)))
    by false e =
        let last : found ≡ top = grind (arith, e, within) in
        subst (λ q. is_held counts q ≡ false) (sym last)
        (top_open counts (fold max 0 counts) l (λ i h. count_max counts 0 i h))

-- this front is the front by its definition
pub front_is : (counts : List ℕ) → 0 < length counts → IsFront counts (front_of counts)
front_is counts some = IsFront-least counts (front_of counts) some (front_held counts) (front_open counts some)

-- where no count falls, the front doesn't fall
pub front_more : (old new : List ℕ) → 0 < length new → length old ≡ length new
    → ((i : ℕ) → i < length new → slice_index old i ≤ slice_index new i) → front_of old ≤ front_of new
front_more old new some same more = IsFront-monotone old new (front_of old) (front_of new) same
    (λ i l. more i (omega (arith, l, same))) (front_is old (omega (arith, same))) (front_is new some)

-- the front by its definition is this one
pub front_only : (counts : List ℕ) (f : ℕ) → 0 < length counts → IsFront counts f → f ≡ front_of counts
front_only counts f some is = IsFront-only counts f (front_of counts) is (front_is counts some)

-- what the accounts of members say of the histories
pub history_of : (members : List MemberEnd) (i : ℕ) (d : MemberEnd) → i < length members
    → (accounts_of members i).history ≡ (get_or members i d).history
history_of members i d within =
    ap (λ o. option_map_or (λ (e : MemberEnd). e.history) o []) (slice_get-get_or members i d within)

pub front_within : (counts : List ℕ) → front_of counts ≤ length counts * fold max 0 counts
unfolding front_of
front_within counts = let l =
    first_within (λ p. not (is_held counts p)) 0 (length counts * fold max 0 counts) in omega (arith, l)

-- the first place that isn't held is the front
pub front_reached : (counts : List ℕ) (p : ℕ) → 0 < length counts → AllHeldBelow counts p
    → is_held counts p ≡ false → p ≡ front_of counts
front_reached counts p some all gap =
    front_only counts p some (IsFront-least counts p some (λ q below. is_held-below counts p q some all below) gap)

-- where no count falls the front of a view does not fall
pub fronts_rise : (old new : ℕ → ℕ) (ms : List ℕ) → ((s : ℕ) → old s ≤ new s)
    → front_of (map old ms) ≤ front_of (map new ms)
fronts_rise old new [] more = le_refl (front_of [])
fronts_rise old new (m ∷ ms) more =
    let all : List ℕ = m ∷ ms in
    front_more (map old all)
    (map new all) (omega (arith, length-map all new)) (length-map all old ∙ sym (length-map all new)) (λ i l.
    let within : i < length all = omega (arith, l, length-map all new) in
    rw (get_or-map old all i 0 0 within, get_or-map new all i 0 0 within) (more (get_or all i 0)))

-- nor does the front of the members' counts
pub front_rises : (members counts : List ℕ) (s c : ℕ) → 0 < length members → s < length counts → get_or counts s 0 ≤ c
    → front_of (map (slice_index counts) members) ≤ front_of (map (slice_index (set counts s c)) members)
front_rises members counts s c some within le =
    let old = length-map members (slice_index counts) in
    let new = length-map members (slice_index (set counts s c)) in
    front_more (map (slice_index counts) members) (map (slice_index (set counts s c)) members)
    (omega (arith, new)) (old ∙ sym new) (λ i l.
    let before = get_or-map (slice_index counts) members i 0 0 (omega (arith, new)) in
    let after = get_or-map (slice_index (set counts s c)) members i 0 0 (omega (arith, new)) in
    omega (arith, before, after, counts_rise counts s c (get_or members i 0) within le))

-- a place is before the front where all places up to it are held
pub front_past : (f : ℕ → ℕ) (n p : ℕ) → 0 < n
    → ((k s : ℕ) → s < n → k * n + s ≤ p → k < f s) → p < front_of (map f (range_with_len 0 n))
front_past f n p some held = omega (arith, (front_is counts (rw len some)).greatest (p + 1) all)
  where
    counts : List ℕ
    counts = map f (range_with_len 0 n)

    len : length counts ≡ n
    len = length-map-range_with_len f 0 n

    all : AllHeldBelow counts (p + 1)
    all rank k l below =
        let within : rank < n = omega (arith, l, len) in
        let place : k * n + rank < p + 1 = subst (λ (z : ℕ). k * z + rank < p + 1) len below in
        rw (get_or-map-range_with_len f 0 n rank rank 0 within (omega arith))
        (held k rank within (omega (arith, place)))
