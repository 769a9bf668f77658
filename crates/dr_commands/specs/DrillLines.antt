-- What is said of a drill.
use Rattle.std.specs.{Fmt.decimal, List.{concat, enumerate_from, flat_map}, Prelude.{ℕ, List, [], ◌∷◌, ◌++◌, codes}}
use Rattle.dr_entry.specs.declared.{end.{AgeEnd.AgeEnd, MemberEnd.MemberEnd}, entry.Entry.Entry}
use Rattle.dr_entry.specs.declared.entry.Entry.TheVariants.{Msg, View}
use Rattle.dr_summary.specs.Histories.{longest}
use Rattle.dr_text.specs.Report.{mask_text, member_line}

-- the line of a View
abbrev pub view_line : ℕ → ℕ → ℕ → List ℕ
view_line age number members =
    concat
    (codes "last view " ∷ decimal age ∷ codes " " ∷ decimal number ∷ codes " " ∷ mask_text members
    ∷ codes "\n" ∷ [])

-- the line of the last View of a history, and this one where it has none
abbrev pub last_view_or : List ℕ → List Entry → List ℕ
last_view_or line [] = line
last_view_or line (View age number members ∷ entries) = last_view_or (view_line age number members) entries
last_view_or line (Msg sender index bytes ∷ entries) = last_view_or line entries

-- the lines of these members, numbered from 0
abbrev pub end_lines : List MemberEnd → List ℕ
end_lines members = flat_map (λ t. member_line t.0 t.1) (enumerate_from 0 members)

-- the lines of an age: its members, and the last View of the longest history
abbrev pub drilled_text : AgeEnd → List ℕ
drilled_text age = end_lines age.members ++ last_view_or [] (longest age.members)

-- the line of the drill of this number
abbrev pub drill_line : ℕ → List ℕ
drill_line number = concat (codes "drill " ∷ decimal number ∷ codes " members 5 messages 2000\n" ∷ [])

-- what is said of its ages
abbrev pub drill_text : ℕ → List AgeEnd → List ℕ
drill_text number ages = drill_line number ++ flat_map drilled_text ages
