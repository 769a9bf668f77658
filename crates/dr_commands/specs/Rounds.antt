-- What the words behind `live` ask for.
use Rattle.std.specs.{Option.option_and_then, Prelude.{ℕ, nat_le, if◌then◌else◌, List, [], ◌∷◌, Option, None, Some}}
use Rattle.dr_literals.specs.Literals.{number_word}

-- how many rounds there may be
abbrev pub round_count : ℕ → Option ℕ
round_count n = if nat_le n 15 then Some n else None

-- the one word writes how many rounds there are, in decimal
abbrev pub rounds_of : List (List ℕ) → Option ℕ
rounds_of (word ∷ []) = option_and_then round_count (number_word word)
rounds_of words = None
