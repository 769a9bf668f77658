-- The front of the counts, told by the places that hold an item.
use Rattle.std.{specs.List.IsFirstBest, proofs.lemmas.Nat.{mod_below, div-mul-add, mod-mul-add}}
use Rattle.std.proofs.Common.{◌≡◌, ℕ, ◌+◌, ◌/◌, ◌%◌, ◌<◌, ◌≤◌, ◌⊎◌, inl, inr, Bool, true, false, List, length, slice_index, nat_lt, arith, le_trans, sym, subst, refl, ◌*◌}
use Rattle.dr_entry.proofs.NumberFacts.{before_place}
use Rattle.dr_history.specs.Places.{place_of, is_held, AllHeldBelow, IsFront}
use Rattle.dr_history.proofs.PlaceLemmas.{place_of-div, place_of-mod, place_of-split}

-- counts have one front
pub IsFront-only : (counts : List ℕ) (f g : ℕ) → IsFront counts f → IsFront counts g → f ≡ g
IsFront-only counts f g is_f is_g = omega (arith, is_g.greatest f is_f.held, is_f.greatest g is_g.held)

-- where no count falls, the front doesn't fall
pub IsFront-monotone : (old new : List ℕ) (f g : ℕ) → length old ≡ length new
    → ((rank : ℕ) → rank < length old → slice_index old rank ≤ slice_index new rank)
    → IsFront old f → IsFront new g → f ≤ g
IsFront-monotone old new f g same grown is_f is_g = is_g.greatest f (λ rank k within below.
    let within_old : rank < length old = omega arith in
    let below_old : place_of (length old) rank k < f = subst (λ (n : ℕ). place_of n rank k < f) (sym same) below in
    le_trans (is_f.held rank k within_old below_old) (grown rank within_old))

-- an item's place is held exactly where its number is below its rank's count
is_held-place_of : (counts : List ℕ) (rank k : ℕ) → rank < length counts
    → is_held counts (place_of (length counts) rank k) ≡ nat_lt k (slice_index counts rank)
is_held-place_of counts rank k within =
    rw (place_of-div (length counts) rank k within, place_of-mod (length counts) rank k within) refl

-- places below one that are all held, and one more
pub AllHeldBelow-more : (counts : List ℕ) (p : ℕ) → AllHeldBelow counts p → is_held counts p
    ≡ true → AllHeldBelow counts (p + 1)
AllHeldBelow-more counts p all held rank k within below = by (last_or_below below)
  where
    last_or_below : place_of (length counts) rank k < p + 1
        → (place_of (length counts) rank k ≡ p) ⊎ (place_of (length counts) rank k < p)
    last_or_below h = grind arith

    by : (place_of (length counts) rank k ≡ p) ⊎ (place_of (length counts) rank k < p) → k < slice_index counts rank
    by (inl e) =
        let at_place : is_held counts (place_of (length counts) rank k) ≡ true = rw e held in
        grind (arith, at_place, is_held-place_of counts rank k within)
    by (inr less) = all rank k within less

-- a place below one below which all are held is held
pub is_held-below : (counts : List ℕ) (front p : ℕ) → 0 < length counts → AllHeldBelow counts front → p < front
    → is_held counts p ≡ true
is_held-below counts front p some all below =
    let within : p % length counts < length counts = mod_below p (length counts) some in
    let less : place_of (length counts) (p % length counts) (p / length counts) < front =
    subst (λ (q : ℕ). q < front) (sym (place_of-split (length counts) p)) below in
    let held = all (p % length counts) (p / length counts) within less in grind (arith, held)

-- each place below the front is held
pub is_held-below_front : (counts : List ℕ) (front p : ℕ) → 0 < length counts → IsFront counts front → p < front
    → is_held counts p ≡ true
is_held-below_front counts front p some is_front below = is_held-below counts front p some is_front.held below

-- the front isn't held
pub is_held-front : (counts : List ℕ) (front : ℕ) → IsFront counts front → is_held counts front ≡ false
is_held-front counts front is_front = by (is_held counts front) refl
  where
    by : (b : Bool) → is_held counts front ≡ b → is_held counts front ≡ false
    by false e = e
    by true e = absurd (omega (arith, is_front.greatest (front + 1) (AllHeldBelow-more counts front is_front.held e)))

-- the front is the place that isn't held, below which every place is held
pub IsFront-least : (counts : List ℕ) (front : ℕ) → 0 < length counts
    → ((p : ℕ) → p < front → is_held counts p ≡ true) → is_held counts front ≡ false → IsFront counts front
IsFront-least counts front some held gap = record {
  held = λ rank k within below.
      let h = held (place_of (length counts) rank k) below in
      let e = is_held-place_of counts rank k within in grind (arith, h, e);
  greatest = λ p all. by p all (le_or_above p);
}
  where
    le_or_above : (p : ℕ) → (p ≤ front) ⊎ (front < p)
    le_or_above p = grind arith

    by : (p : ℕ) → AllHeldBelow counts p → (p ≤ front) ⊎ (front < p) → p ≤ front
    by p all (inl h) = h
    by p all (inr above) =
        let h : is_held counts front ≡ true = is_held-below counts p front some all above in absurd (cc)

-- the place of the first item that is missing
pub IsFront-first_least : (counts : List ℕ) (rank : ℕ) → 0 < length counts
    → IsFirstBest nat_lt counts (length counts) rank → IsFront counts (slice_index counts rank * length counts + rank)
IsFront-first_least counts rank some best = IsFront-least counts _ some
    (λ p below. by p (before_place (length counts) (slice_index counts rank) rank p best.0 below)) gap
  where
    gap : is_held counts (slice_index counts rank * length counts + rank) ≡ false
    gap = rw (
      div-mul-add (slice_index counts rank) (length counts) rank best.0,
      mod-mul-add (slice_index counts rank) (length counts) rank best.0,
    ) (grind arith)

    by : (p : ℕ) → (p / length counts < slice_index counts rank)
        ⊎ ((p / length counts ≡ slice_index counts rank) × (p % length counts < rank)) → is_held counts p ≡ true
    by p (inl earlier) = let least = best.1 (p % length counts) 0 (mod_below p (length counts) some) in
        grind (arith, least)
    by p (inr (same, lower)) = let more = best.2 (p % length counts) 0 lower in grind (arith, more)
