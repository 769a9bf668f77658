-- What the words of a call ask for.
use Rattle.std.specs.Prelude.{ℕ, if◌then◌else◌, List, [], ◌∷◌, codes, bytes_eq, Option, option_map}
use Rattle.dr_literals.specs.Options.{late_named}
use Rattle.dr_tools.specs.declared.summary.words.{Asked.Asked, Wording.{Wording, TheVariants.{People, Programs}}}

-- the wording that the words begin with, and the words behind it
abbrev pub wording_at : List (List ℕ) → Wording × List (List ℕ)
wording_at [] = (People, [])
wording_at (word ∷ words) = if bytes_eq word (codes "json") then (Programs, words) else (People, word ∷ words)

-- a run to be summed up in a wording, in which these members are late
abbrev pub asked_with : Wording → ℕ → Asked
asked_with wording late = record { wording = wording; late = late }

-- what these words ask for, if they are those of a call: a wording, and behind it who is late
abbrev pub asked_of : List (List ℕ) → Option Asked
asked_of words = option_map (asked_with (wording_at words).0) (late_named (wording_at words).1)
