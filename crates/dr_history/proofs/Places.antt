-- Places of items, and which of them are held.
use Rattle.std.{specs.List.{position, Sorted.IsStrictlyIncreasing}, proofs.lemmas.Bool.{ltb-true, cases_eq}}
use Rattle.std.proofs.Common.{◌≡◌, ℕ, ◌+◌, ◌-◌, ◌*◌, ◌<◌, false, List, length, arith, ◌/◌, ◌%◌, ◌≤◌, subst, slice_index, ◌^◌, ◌⊎◌, inl, inr, max, fold, refl, replicate, map, true, get_or, ap, ◌∙◌, sym, nat_lt, [], ◌∷◌, Some, slice_get, mod-lt, ◌==◌}
use Rattle.std.proofs.{Math.Nat.{add-mul-div_right, add-mul-mod_self_right}, lemmas.List.{get_or-map, length-map}}
use Rattle.std.proofs.lemmas.{List.Kept.IsStrictlyIncreasing-filter, Nat.{mod_below, div-add-mod', le-div}}
use Rattle.dr_entry.proofs.{ListFacts.fold_max_within, ListPlaces.{copy_at, slice_get-some}}
use Rattle.dr_entry.proofs.NumberFacts.{IsStrictlyIncreasing-range_with_len, below_product}
use Rattle.dr_history.{specs.History.{IsPrefixOf, GroupView, Sent, place_in}, proofs.Lists.position-more}
use Rattle.dr_history.{specs.Places.{is_held, held_places, front_of, first, place_of}, proofs.Merging.is_held-member}

-- where a place isn't held, the same rank's place some rounds later isn't
not_held_later : (counts : List ℕ) (p rounds : ℕ) → 0 < length counts → is_held counts p ≡ false
    → is_held counts (p + rounds * length counts) ≡ false
not_held_later counts p rounds some h = rw (
  add-mul-div_right p rounds {z = length counts} some,
  add-mul-mod_self_right p rounds (length counts),
) (grind (arith, h))

-- where no place of a round is held, none after it is
not_held_after_round : (counts : List ℕ) (from : ℕ) → 0 < length counts
    → ((p : ℕ) → from ≤ p → p < from + length counts → is_held counts p ≡ false)
    → (p : ℕ) → from ≤ p → is_held counts p ≡ false
not_held_after_round counts from some round p after =
    let n = length counts in
    let early : ℕ = from + (p - from) % n in
    let less : (p - from) % n < n = mod_below (p - from) n some in
    let split : (p - from) / n * n + (p - from) % n ≡ p - from = div-add-mod' (p - from) n in
    let same : early + (p - from) / n * n ≡ p = omega arith in
    let gap : is_held counts early ≡ false = round early (omega arith) (omega arith) in
    subst (λ (q : ℕ). is_held counts q ≡ false) same (not_held_later counts early ((p - from) / n) some gap)

-- a place whose item number is at least every count isn't held
pub not_held_above : (counts : List ℕ) (bound p : ℕ) → 0 < length counts
    → ((rank : ℕ) → rank < length counts → slice_index counts rank ≤ bound)
    → bound * length counts ≤ p → is_held counts p ≡ false
not_held_above counts bound p some most above =
    let number : bound ≤ p / length counts = le-div bound p (length counts) some above in
    let count = most (p % length counts) (mod_below p (length counts) some) in grind (arith, number, count)

-- where no place of a round is held, as far as the round goes within 64 bits, no later place is
pub not_held_after : (counts : List ℕ) (from end : ℕ) → 0 < length counts → length counts ≤ 16
    → ((rank : ℕ) → slice_index counts rank < 2 ^ 32) → (from + length counts ≤ end) ⊎ (2 ^ 64 - 1 ≤ end)
    → ((p : ℕ) → from ≤ p → p < end → is_held counts p ≡ false) → (p : ℕ) → from ≤ p → is_held counts p ≡ false
not_held_after counts from end some few fit far round =
    not_held_after_round counts from some (λ p after within. by p after within far (below_or_not p))
  where
    below_or_not : (p : ℕ) → (p < end) ⊎ (end ≤ p)
    below_or_not p = grind arith

    by : (p : ℕ) → from ≤ p → p < from + length counts → (from + length counts ≤ end) ⊎ (2 ^ 64 - 1 ≤ end)
        → (p < end) ⊎ (end ≤ p) → is_held counts p ≡ false
    by p after within far (inl below) = round p after below
    by p after within (inl whole) (inr above) = absurd (omega arith)
    by p after within (inr top) (inr above) =
        not_held_above counts (2 ^ 32) p some (λ rank h. omega (arith, fit rank)) (omega arith)

-- the held places rise
pub IsStrictlyIncreasing-held_places : (counts : List ℕ) → IsStrictlyIncreasing (held_places counts)
unfolding held_places
IsStrictlyIncreasing-held_places counts = IsStrictlyIncreasing-filter (is_held counts) _
    (IsStrictlyIncreasing-range_with_len 0 (length counts * fold max 0 counts))

front_of-zeros : (xs : List ℕ) → fold max 0 xs ≡ 0 → front_of xs ≡ 0
unfolding front_of first
front_of-zeros xs e = rw e (rw (times_zero (length xs)) refl)
  where
    times_zero : (n : ℕ) → n * 0 ≡ 0
    times_zero n = omega arith

-- the front of no items is 0
pub front_of_none : (n : ℕ) (xs : List ℕ) → front_of (map (slice_index (replicate n 0)) xs) ≡ 0
front_of_none n xs = front_of-zeros (map (slice_index (replicate n 0)) xs)
    (zero_within (fold max 0 (map (slice_index (replicate n 0)) xs))
    (fold_max_within (slice_index (replicate n 0)) xs 0 0 (omega arith) (λ x. omega (arith, copy_at {X = ℕ} n 0 x))))
  where
    zero_within : (x : ℕ) → x ≤ 0 → x ≡ 0
    zero_within x l = omega (arith, l)

-- a place that is held is one of an item that its member has
pub held_item : (counts members : List ℕ) (p : ℕ) → 0 < length members
    → is_held (map (slice_index counts) members) p ≡ true
    → p / length members < get_or counts (get_or members (p % length members) 0) 0
held_item counts members p some held =
    let long = length-map members (slice_index counts) in
    let there : p / length (map (slice_index counts) members) < get_or (map (slice_index counts) members)
    (p % length (map (slice_index counts) members)) 0 = ltb-true _ _ held in
    let at : p / length members < get_or (map (slice_index counts) members) (p % length members) 0 =
    subst (λ (n : ℕ). p / n < get_or (map (slice_index counts) members) (p % n) 0) long there in
    let which = get_or-map (slice_index counts) members (p % length members) 0 0
    (mod_below p (length members) some) in
    omega (arith, at, which)

-- so it isn't beyond all items
pub held_small : (counts members : List ℕ) (p : ℕ) → 0 < length members → ((i : ℕ) → get_or counts i 0 < 2 ^ 32)
    → is_held (map (slice_index counts) members) p ≡ true → p < length members * 2 ^ 32
held_small counts members p some small held =
    let item = held_item counts members p some held in
    let fits = small (get_or members (p % length members) 0) in
    below_product p (length members) (2 ^ 32) some (omega (arith, item, fits))

-- what isn't taken before a place or at it isn't before the next one
pub none_to : (trims : List ℕ) (from p : ℕ) → ((q : ℕ) → from ≤ q → q < p → is_held trims q ≡ false)
    → is_held trims p ≡ false → (q : ℕ) → from ≤ q → q < p + 1 → is_held trims q ≡ false
none_to trims from p before here q after below = elim (cases_eq q p) [
  | inl same ↦ ap (is_held trims) same ∙ here
  | inr other ↦ before q after (omega (arith, below, other))
]

-- the member of a held place, of whom more items were received
pub held_member : (received : ℕ → ℕ) (ms : List ℕ) (q : ℕ) → is_held (map received ms) q ≡ true
    → (s : ℕ) × (slice_get ms (q % length ms) ≡ Some s) × (q / length ms < received s)
held_member received [] q e = absurd (grind (arith, e))
held_member received (m ∷ ms) q e =
    let at = slice_get-some (m ∷ ms) (q % length (m ∷ ms)) (mod-lt q (omega arith)) in
    let test : nat_lt (q / length (m ∷ ms)) (received at.0)
    ≡ true = sym (is_held-member received (m ∷ ms) q at.0 at.1) ∙ e in
    (at.0, at.1, grind (arith, test))

pub place_in-more : (sent now : Sent) (v : GroupView) (s i p : ℕ) → IsPrefixOf (sent s v.number) (now s v.number)
    → place_in sent v s i ≡ Some p → place_in now v s i ≡ Some p
place_in-more sent now v s i p pre e = position-more (position (λ m. m == s) v.members)
    (place_of (length v.members)) _ (sent s v.number) (now s v.number) p pre e
