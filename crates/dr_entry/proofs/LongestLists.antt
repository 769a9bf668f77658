-- How many turns are enough for some lists of messages, by the longest of them.
use Rattle.std.{specs.Prelude.map, proofs.lemmas.List.Elements.{All-head, All-cons, All-tail, All-nil}}
use Rattle.std.proofs.Common.{ℕ, ◌+◌, arith, List, [], ◌∷◌, All, length, ◌-◌, ◌≤◌, ◌*◌, fold, max}

-- a list of messages is no longer than a bound, or has time enough
abbrev Fits : ℕ → List (List ℕ) → Type 0
Fits most messages = length messages ≤ most

abbrev HasTurns : ℕ → List (List ℕ) → Type 0
HasTurns turns messages = 4 * length messages + 8 ≤ turns

-- where no list is longer than a bound, the longest isn't
pub longest_within : (most a : ℕ) (lists : List (List (List ℕ))) → a ≤ most
    → All (λ messages. length messages ≤ most) lists → fold max a (map length lists) ≤ most
longest_within most a [] l all = l
longest_within most a (ms ∷ lists) l all = longest_within most (max a (length ms)) lists
    (omega (arith, l, All-head (Fits most) ms lists all)) (All-tail (Fits most) ms lists all)

-- where each list has time enough, the longest has
pub enough_for : (turns a : ℕ) (lists : List (List (List ℕ))) → 4 * a + 8 ≤ turns
    → All (HasTurns turns) lists → 4 * fold max a (map length lists) + 8 ≤ turns
enough_for turns a [] l all = l
enough_for turns a (ms ∷ lists) l all = enough_for turns (max a (length ms)) lists
    (omega (arith, l, All-head (HasTurns turns) ms lists all)) (All-tail (HasTurns turns) ms lists all)

-- and where the longest has, each has
pub each_has : (turns a : ℕ) (lists : List (List (List ℕ)))
    → 4 * fold max a (map length lists) + 8 ≤ turns → (4 * a + 8 ≤ turns) × All (HasTurns turns) lists
each_has turns a [] l = (l, All-nil (HasTurns turns))
each_has turns a (ms ∷ lists) l =
    let rest = each_has turns (max a (length ms)) lists l in
    (omega (arith, rest.0), All-cons (HasTurns turns) ms lists (omega (arith, rest.0)) rest.1)

-- the first of some lists shows that there are as many turns as no message takes
pub some_has : (turns : ℕ) (lists : List (List (List ℕ))) → 1 ≤ length lists → All (HasTurns turns) lists → 8 ≤ turns
some_has turns [] some all = omega (arith, some)
some_has turns (ms ∷ lists) some all = omega (arith, All-head (HasTurns turns) ms lists all)
