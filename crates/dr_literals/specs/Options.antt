-- What options write in words.
use Rattle.std.specs.Option.{option_and_then}
use Rattle.std.specs.Prelude.{ℕ, ◌==◌, if◌then◌else◌, List, [], ◌∷◌, length, take, drop, codes, bytes_eq, Option, None, Some, option_map}
use Rattle.dr_literals.specs.Literals.{mask_word}

-- ---- options, each in two spellings: `--NAME VALUE` and `--NAME=VALUE`

-- the value that a word of its own is: one that is not empty and does not begin with a dash
abbrev pub value_word : List ℕ → Option (List ℕ)
value_word [] = None
value_word (byte ∷ bytes) = if byte == 45 then None else Some (byte ∷ bytes)

-- what stands behind this front of a word, where the word begins with it
abbrev pub behind : List ℕ → List ℕ → Option (List ℕ)
behind front word =
    if bytes_eq (take (length front) word) front then Some (drop (length front) word) else None

-- something that is not nothing
abbrev pub filled : List ℕ → Option (List ℕ)
filled [] = None
filled (byte ∷ bytes) = Some (byte ∷ bytes)

-- what stands in a word behind the name and `=`, where that is something
abbrev pub value_in : List ℕ → List ℕ → Option (List ℕ)
value_in name word = option_and_then filled (option_and_then (behind (codes "=")) (behind name word))

-- the value in a word, if there is one, and the words that are left
abbrev pub left_by : Option (List ℕ) → List ℕ → List (List ℕ) → Option (List ℕ) × List (List ℕ)
left_by None word rest = (None, word ∷ rest)
left_by (Some value) word rest = (Some value, rest)

-- the value of the option with this name, if the words begin with one, and the words behind it: none where
-- the option has no value
abbrev pub option_of : List ℕ → List (List ℕ) → Option (Option (List ℕ) × List (List ℕ))
option_of name [] = Some (None, [])
option_of name (word ∷ []) = Some (left_by (value_in name word) word [])
option_of name (word ∷ value ∷ rest) =
    if bytes_eq word name then option_map (λ v. (Some v, rest)) (value_word value)
    else Some (left_by (value_in name word) word (value ∷ rest))

-- the members of a list, and nobody where there is none
abbrev pub members_in : Option (List ℕ) → Option ℕ
members_in None = Some 0
members_in (Some list) = mask_word list

-- the members that the option with this name lists, if the words begin with one, and the words behind it
abbrev pub option_members : List ℕ → List (List ℕ) → Option (ℕ × List (List ℕ))
option_members name words =
    option_and_then (λ found. option_map (λ mask. (mask, found.1)) (members_in found.0)) (option_of name words)

-- what was found, where no word is left behind it
abbrev pub if_last : ℕ → List (List ℕ) → Option ℕ
if_last found [] = Some found
if_last found (word ∷ words) = None

-- who is late by these words, which are `--late` with its members, or none: nobody then
abbrev pub late_named : List (List ℕ) → Option ℕ
late_named words = option_and_then (λ found. if_last found.0 found.1) (option_members (codes "--late") words)
