-- What a read does to the bytes that a source has left, where it tells them.
use Rattle.std.specs.Prelude.{◌≡◌, ℕ, List, [], ◌++◌, take, Option, Some, None, Result, MatchResult, ⊤}

-- the bytes went from the front of what was left, and the source tells what it has left as it did before
abbrev pub Loses : Option (List ℕ) → Option (List ℕ) → List ℕ → Type 0
Loses None None bytes = ⊤
Loses None (Some new) bytes = ⊥
Loses (Some old) None bytes = ⊥
Loses (Some old) (Some new) bytes = old ≡ bytes ++ new

-- nothing is left, as far as the source tells
abbrev pub IsUsedUp : Option (List ℕ) → Type 0
IsUsedUp None = ⊤
IsUsedUp (Some left) = left ≡ []

-- a read gave the next bytes at the front of the buffer, none only where the input has ended, and a failed
-- read took none
abbrev pub Reads : {E : Type 0} → Option (List ℕ) → Option (List ℕ) → Result ℕ E → List ℕ
    → Type 0
Reads old new result buffer =
    MatchResult result (λ n. Loses old new (take n buffer) × (n ≡ 0 → IsUsedUp new))
    (λ _. Loses old new [])
