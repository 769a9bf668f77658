-- What the words of a call ask for.
use Rattle.std.specs.Prelude.{ℕ, if◌then◌else◌, List, [], ◌∷◌, map, codes, bytes_eq, Option, None, Some, option_map, String, string_bytes}
use Rattle.std.specs.declared.alloc.Global.{Global}
use Rattle.dr_literals.specs.{Literals.number_word, Options.late_named}
use Rattle.dr_tools.specs.declared.tracing.words.{Asked.Asked, Form.{Form, TheVariants.{Chart, Lines, Picture}}}

-- a picture of the turns from one to another, which words write in decimal
abbrev pub picture_of : Option ℕ → Option ℕ → Option Form
picture_of (Some from) (Some to) = Some (Picture from to)
picture_of from to = None

abbrev pub window_of : List ℕ → List ℕ → Option Form
window_of from to = picture_of (number_word from) (number_word to)

-- a picture of all turns
abbrev pub whole : Form
whole = Picture 0 18446744073709551615

-- a picture with the words behind it, or one of all turns, with these words
abbrev pub picture_or : Option Form → List (List ℕ) → List (List ℕ) → Form × List (List ℕ)
picture_or (Some picture) rest words = (picture, rest)
picture_or None rest words = (whole, words)

-- the picture whose turns the words begin with, or one of all turns, and the words behind it
abbrev pub picture_at : List (List ℕ) → Form × List (List ℕ)
picture_at (from ∷ to ∷ rest) = picture_or (window_of from to) rest (from ∷ to ∷ rest)
picture_at words = (whole, words)

-- the form that the words begin with, and the words behind it
abbrev pub form_at : List (List ℕ) → Form × List (List ℕ)
form_at [] = (Chart, [])
form_at (word ∷ words) =
    if bytes_eq word (codes "lines") then (Lines, words)
    else if bytes_eq word (codes "svg") then picture_at words else (Chart, word ∷ words)

-- a run to be told in a form, in which these members are late
abbrev pub asked_with : Form → ℕ → Asked
asked_with form late = record { form = form; late = late }

-- what these words ask for, if they are those of a call: a form, and behind it who is late
abbrev pub asked_of : List (List ℕ) → Option Asked
asked_of words = option_map (asked_with (form_at words).0) (late_named (form_at words).1)

-- the same of the words of a call
abbrev pub asked_by : List (String Global) → Option Asked
asked_by words = asked_of (map string_bytes words)
