-- Places that hold an item: none after a round without one, and the list of all of them.
use Rattle.std.{specs.List.range_with_len, proofs.Math.Nat.mul_comm}
use Rattle.std.proofs.Common.{◌≡◌, ℕ, zero, suc, ◌+◌, ◌-◌, ◌*◌, ◌<◌, ◌≤◌, ◌⊎◌, inl, inr, Bool, true, false, cond, List, [], ◌∷◌, None, Some, length, max, fold, filter, arith, le_refl, sym, subst, refl, ap}
use Rattle.dr_entry.proofs.ListPlaces.{count_max}
use Rattle.dr_history.{specs.Places.{is_held, held_places, rest_places}, proofs.Places.not_held_above}
use Rattle.dr_order.specs.Merge.{IsNextHeld, AreTaken}

-- where the first place isn't held, it may be left out
taken_after : (counts : List ℕ) (from : ℕ) (ps : List ℕ) → is_held counts from ≡ false
    → AreTaken counts from ps → AreTaken counts (from + 1) ps
taken_after counts from [] gap none = λ p after. none p (omega arith)
taken_after counts from (p ∷ ps) gap t =
    ((further (from_or_later t.0.0), t.0.1, λ q after below. t.0.2 q (omega arith) below), t.1)
  where
    from_or_later : from ≤ p → (from ≡ p) ⊎ (from + 1 ≤ p)
    from_or_later h = grind arith

    further : (from ≡ p) ⊎ (from + 1 ≤ p) → from + 1 ≤ p
    further (inl e) =
        let held : is_held counts from ≡ true = rw e t.0.1 in absurd (cc)
    further (inr later) = later

-- where the first place isn't held, it may be put before
taken_before : (counts : List ℕ) (from : ℕ) (ps : List ℕ) → is_held counts from ≡ false
    → AreTaken counts (from + 1) ps → AreTaken counts from ps
taken_before counts from ps gap t = by ps t
  where
    from_or_later : (q : ℕ) → from ≤ q → (from ≡ q) ⊎ (from + 1 ≤ q)
    from_or_later q h = grind arith

    at : (P : ℕ → Type 0) → ((q : ℕ) → from + 1 ≤ q → P q → is_held counts q ≡ false) → (q : ℕ) → P q
        → (from ≡ q) ⊎ (from + 1 ≤ q) → is_held counts q ≡ false
    at P later q h (inl e) = subst (λ (z : ℕ). is_held counts z ≡ false) e gap
    at P later q h (inr after) = later q after h

    by : (ps : List ℕ) → AreTaken counts (from + 1) ps → AreTaken counts from ps
    by [] none = λ q after. at (λ _. Unit {0}) (λ z later _. none z later) q tt (from_or_later q after)
    by (p ∷ ps) t = (
      (omega (arith, t.0.0), t.0.1, λ q after below. at (λ z. z < p) t.0.2 q below (from_or_later q after)),
      t.1,
    )

-- the places that are taken are the held ones of a range behind which no place is held
taken_is : (counts : List ℕ) (len from : ℕ) (ps : List ℕ) → ((p : ℕ) → from + len ≤ p → is_held counts p ≡ false)
    → AreTaken counts from ps → ps ≡ filter (is_held counts) (range_with_len from len)
taken_is counts zero from [] past t = refl
taken_is counts zero from (p ∷ ps) past t =
    let gap : is_held counts p ≡ false = past p (omega (arith, t.0.0)) in
    let held : is_held counts p ≡ true = t.0.1 in absurd (cc)
taken_is counts (suc len) from ps past t =
    by (λ rest. taken_is counts len (from + 1) rest (λ p above. past p (omega arith))) (is_held counts from) refl ps t
  where
    by : ((rest : List ℕ) → AreTaken counts (from + 1) rest → rest ≡ filter (is_held counts)
        (range_with_len (from + 1) len)) → (b : Bool) → is_held counts from ≡ b → (ps : List ℕ)
        → AreTaken counts from ps → ps ≡ cond b (from ∷ filter (is_held counts) (range_with_len (from + 1) len))
        (filter (is_held counts) (range_with_len (from + 1) len))
    by rest false e ps t = rest ps (taken_after counts from ps e t)
    by rest true e [] t =
        let gap : is_held counts from ≡ false = t from (le_refl from) in absurd (cc)
    by rest true e (p ∷ ps) t =
        let at : from ≡ p = first p t.0 (from_or_later p t.0.0) in
        let same : ps ≡ filter (is_held counts) (range_with_len (from + 1) len) =
        rest ps (subst (λ (z : ℕ). AreTaken counts (z + 1) ps) (sym at) t.1) in
        cc
      where
        from_or_later : (p : ℕ) → from ≤ p → (from ≡ p) ⊎ (from < p)
        from_or_later p h = grind arith

        first : (p : ℕ) → IsNextHeld counts from (Some p) → (from ≡ p) ⊎ (from < p) → from ≡ p
        first p t (inl at) = at
        first p t (inr later) =
            let gap : is_held counts from ≡ false = t.2 from (le_refl from) later in absurd (cc)

-- the held places of a range behind which no place is held are those that are taken
is_taken : (counts : List ℕ) (len from : ℕ) → ((p : ℕ) → from + len ≤ p → is_held counts p ≡ false)
    → AreTaken counts from (filter (is_held counts) (range_with_len from len))
is_taken counts zero from past = λ p above. past p (omega arith)
is_taken counts (suc len) from past = by (filter (is_held counts) (range_with_len (from + 1) len))
    (is_taken counts len (from + 1) (λ p above. past p (omega arith))) (is_held counts from) refl
  where
    by : (rest : List ℕ) → AreTaken counts (from + 1) rest → (b : Bool) → is_held counts from ≡ b
        → AreTaken counts from (cond b (from ∷ rest) rest)
    by rest t false e = taken_before counts from rest e t
    by rest t true e = ((le_refl from, e, λ q after below. absurd (omega arith)), t)

-- the places that are taken from place 0 on are the held places
pub AreTaken-held_places : (counts places : List ℕ) → 0 < length counts
    → (AreTaken counts 0 places → places ≡ held_places counts)
    × (places ≡ held_places counts → AreTaken counts 0 places)
unfolding held_places
AreTaken-held_places counts places some = (
  λ t. taken_is counts (length counts * fold max 0 counts) 0 places past t,
  λ e. subst (λ (ps : List ℕ). AreTaken counts 0 ps) (sym e)
      (is_taken counts (length counts * fold max 0 counts) 0 past),
)
  where
    past : (p : ℕ) → 0 + length counts * fold max 0 counts ≤ p → is_held counts p ≡ false
    past p above = not_held_above counts (fold max 0 counts) p some (count_max counts 0) (omega arith)

-- and those from a later place on are the rest of them
pub AreTaken-rest_places : (counts places : List ℕ) (from : ℕ) → 0 < length counts
    → (AreTaken counts from places → places ≡ rest_places counts from)
    × (places ≡ rest_places counts from → AreTaken counts from places)
unfolding rest_places
AreTaken-rest_places counts places from some = (
  λ t. taken_is counts (length counts * fold max 0 counts - from) from places past t,
  λ e. subst (λ (ps : List ℕ). AreTaken counts from ps) (sym e)
      (is_taken counts (length counts * fold max 0 counts - from) from past),
)
  where
    past : (p : ℕ) → from + (length counts * fold max 0 counts - from) ≤ p → is_held counts p ≡ false
    past p above = not_held_above counts (fold max 0 counts) p some (count_max counts 0)
        (omega (arith, above, mul_comm (fold max 0 counts) (length counts)))

-- the next place that holds an item is the first of the rest
pub rest_places-next : (counts : List ℕ) (from p : ℕ) → 0 < length counts
    → IsNextHeld counts from (Some p) → rest_places counts from ≡ p ∷ rest_places counts (p + 1)
rest_places-next counts from p some next =
    let behind = (AreTaken-rest_places counts (rest_places counts (p + 1)) (p + 1) some).1 refl in
    sym ((AreTaken-rest_places counts (p ∷ rest_places counts (p + 1)) from some).0 (next, behind))

-- and where there is none, nothing is left
pub rest_places-none : (counts : List ℕ) (from : ℕ) → 0 < length counts
    → IsNextHeld counts from None → rest_places counts from ≡ []
rest_places-none counts from some none = sym ((AreTaken-rest_places counts [] from some).0 none)

-- each place that is taken leaves fewer
pub fewer_left : (trims : List ℕ) (from p : ℕ) → 0 < length trims → IsNextHeld trims from (Some p)
    → length (rest_places trims (p + 1)) < length (rest_places trims from)
fewer_left trims from p some next = omega (arith, ap length (rest_places-next trims from p some next))
