-- The merge of what the ranks of a view sent, place by place.
use Rattle.std.specs.Prelude.{◌≡◌, ℕ, ◌+◌, ◌<◌, ◌≤◌, true, false, List, [], ◌∷◌, Option, None, Some}
use Rattle.dr_history.specs.Places.{is_held}

-- the least place at or after `from` that holds an item, and none exactly where there is no such place
abbrev pub IsNextHeld : List ℕ → ℕ → Option ℕ → Type 0
IsNextHeld counts from None = (p : ℕ) → from ≤ p → is_held counts p ≡ false
IsNextHeld counts from (Some p) =
    (from ≤ p) × (is_held counts p ≡ true)
    × ((q : ℕ) → from ≤ q → q < p → is_held counts q ≡ false)

-- these places come by taking the next held place again and again from `from` on, each time from behind the
-- last, until there is none
abbrev pub AreTaken : List ℕ → ℕ → List ℕ → Type 0
AreTaken counts from [] = IsNextHeld counts from None
AreTaken counts from (p ∷ ps) = IsNextHeld counts from (Some p) × AreTaken counts (p + 1) ps
