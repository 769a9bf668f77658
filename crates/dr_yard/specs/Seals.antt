-- The text of seals.
use Rattle.std.specs.Int.{to_be_bytes, w64}
use Rattle.std.specs.Prelude.{◌≡◌, ◌⊎◌, ⊤, ℕ, ◌+◌, ◌/◌, ◌%◌, List, [], ◌∷◌, ◌++◌, codes, get_or, slice_set, if◌then◌else◌, Option, None, Some}
use Rattle.hex.specs.Hex.{encode_lower}
use Rattle.dr_yard.specs.{Checksums.checksum, declared.seal.{Seal.Seal, Sealed.Sealed}}
use Rattle.dr_yard.specs.declared.seal.Sealed.TheVariants.{As, Never, OfTwoGroups, Unreadable}

-- a number in sixteen hexadecimal digits
unfoldable pub digits : ℕ → List ℕ
digits n = encode_lower (to_be_bytes w64 n)

-- the front of a line of a group, and behind it the checksum of the group's name and of that
unfoldable pub ended : List ℕ → List ℕ → List ℕ
ended group front = (front ++ digits (checksum (group ++ front))) ++ codes "\n"

-- the line of a group
unfoldable pub head_of : List ℕ → List ℕ
head_of group = ended group ((codes "seals 01 of group " ++ encode_lower group) ++ codes " ")

-- a state, and the numbers of a seal
unfoldable pub seal_told : List ℕ → Seal → List ℕ
seal_told state seal = (((state ++ digits seal.length) ++ codes " ") ++ digits seal.sum) ++ codes " "

-- what a line tells of a log: its seal, or that there is none
abbrev pub told_of : Option Seal → List ℕ
told_of None = codes " absent 0000000000000000 0000000000000000 "
told_of (Some seal) = seal_told (if seal.is_open then codes " opened " else codes " closed ") seal

-- the line of a member of a group
unfoldable pub line_of : List ℕ → ℕ → Option Seal → List ℕ
line_of group m seal = ended group ((codes "member " ++ ((48 + m / 10) ∷ ((48 + m % 10) ∷ []))) ++ told_of seal)

-- the line tells this of a member of a group: its seal, or that there is none; it may be one that can't be read
abbrev pub IsLineOf : List ℕ → ℕ → List ℕ → Sealed → Type 0
IsLineOf group m line (As seal) = line ≡ line_of group m (Some seal)
IsLineOf group m line Never = line ≡ line_of group m None
IsLineOf group m line Unreadable = ⊤
IsLineOf group m line OfTwoGroups = ⊥

-- the first line of a text names this group
abbrev pub IsNamed : List (List ℕ) → List ℕ → Type 0
IsNamed lines group = get_or lines 0 [] ≡ head_of group

-- the lines of a text tell this of a member of their group; nothing, where they can't be read
abbrev pub IsSealedIn : List (List ℕ) → ℕ → Sealed → Type 0
IsSealedIn lines m Unreadable = ⊤
IsSealedIn lines m sealed = (group : List ℕ) × IsNamed lines group × IsLineOf group m (get_or lines (m + 1) []) sealed

-- the line of this member is another, and no other is; where the group can't be read all is as it was
abbrev pub IsPut : List (List ℕ) → List (List ℕ) → ℕ → Option Seal → Type 0
IsPut old new m seal = (new ≡ old)
    ⊎ ((group : List ℕ) × IsNamed old group × (new ≡ slice_set old (m + 1) (line_of group m seal)))

-- each line is that of one of two texts
abbrev pub IsJoined : List (List ℕ) → List (List ℕ) → List (List ℕ) → Type 0
IsJoined one other lines =
    (n : ℕ) → (get_or lines n [] ≡ get_or one n []) ⊎ (get_or lines n [] ≡ get_or other n [])
