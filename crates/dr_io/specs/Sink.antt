-- What a write does to the bytes that a sink holds, where it tells them.
use Rattle.std.specs.Prelude.{◌≡◌, ℕ, List, [], ◌++◌, take, Option, Some, None, Result, MatchResult, ⊤}

-- the bytes came behind what was held, and the sink tells what it holds as it did before
abbrev pub Gains : Option (List ℕ) → Option (List ℕ) → List ℕ → Type 0
Gains None None bytes = ⊤
Gains None (Some new) bytes = ⊥
Gains (Some old) None bytes = ⊥
Gains (Some old) (Some new) bytes = new ≡ old ++ bytes

-- a write appended the first bytes of the buffer, and a failed write none
abbrev pub Writes : {E : Type 0} → Option (List ℕ) → Option (List ℕ) → Result ℕ E → List ℕ
    → Type 0
Writes old new result buffer =
    MatchResult result (λ n. Gains old new (take n buffer)) (λ _. Gains old new [])
