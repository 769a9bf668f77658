-- What the stores of members say of a key at a version.
use Rattle.std.specs.{Fmt.decimal, List.{concat, enumerate_from, flat_map}}
use Rattle.std.specs.Prelude.{ℕ, nat_lt, if◌then◌else◌, List, [], ◌∷◌, ◌++◌, length, Option, None, Some, codes}
use Rattle.std.specs.FinMap as map
use Rattle.dr_entry.specs.declared.{end.{AgeEnd.AgeEnd, MemberEnd.MemberEnd}, entry.Entry.Entry}
use Rattle.dr_store.specs.Commands.{contents, messages}
use Rattle.dr_text.specs.Report.{message_text}

-- a value in hexadecimal, a dash for an empty one, and `none` for none
abbrev pub value_text : Option (List ℕ) → List ℕ
value_text None = codes "none"
value_text (Some bytes) = message_text bytes

-- what the store of a history says of a key at a version: its value, or that it hasn't come to the version
abbrev pub answer_text : List ℕ → ℕ → List Entry → List ℕ
answer_text key v h =
    if nat_lt (length (messages h)) v then codes "ahead"
    else codes "value " ++ value_text (map.get (contents h v) key)

-- the line of a member with this number and history
abbrev pub value_line : List ℕ → ℕ → ℕ → List Entry → List ℕ
value_line key v number h =
    concat
    (codes "member " ∷ decimal number ∷ codes " version " ∷ decimal (length (messages h)) ∷ codes " "
    ∷ answer_text key v h ∷ codes "\n" ∷ [])

-- the lines of members, numbered from 0
abbrev pub values_text : List ℕ → ℕ → List MemberEnd → List ℕ
values_text key v members = flat_map (λ t. value_line key v t.0 t.1.history) (enumerate_from 0 members)

-- the lines of the members of the last age, if one ran
abbrev pub last_values_text : List ℕ → ℕ → List AgeEnd → List ℕ
last_values_text key v [] = []
last_values_text key v (age ∷ []) = values_text key v age.members
last_values_text key v (age ∷ next ∷ ages) = last_values_text key v (next ∷ ages)
