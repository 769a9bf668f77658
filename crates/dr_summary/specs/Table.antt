-- The table of an age: one history as rows, the members as columns.
use Rattle.std.specs.{Fmt.decimal, List.{concat, enumerate_from, flat_map}, Str.chars}
use Rattle.std.specs.Prelude.{ℕ, ◌+◌, ◌-◌, nat_lt, nat_le, if◌then◌else◌, List, [], ◌∷◌, ◌++◌, length, drop, replicate, codes}
use Rattle.dr_entry.specs.declared.end.{AgeEnd.AgeEnd, End.End}
use Rattle.dr_entry.specs.declared.end.End.TheVariants.{Done, Crashed, Suspected, Excluded, NoMajority, DiskFault, LogFull, Spent, Absent}
use Rattle.dr_entry.specs.declared.{end.MemberEnd.MemberEnd, entry.Entry.{Entry, TheVariants.{View, Msg}}}
use Rattle.dr_quote.specs.Quote.{message_text}
use Rattle.dr_summary.specs.Histories.{longest}
use Rattle.dr_text.specs.Report.{mask_text}

-- a text with blanks before it, so that it has at least this length
abbrev pub behind_blanks : ℕ → List ℕ → List ℕ
behind_blanks width text = replicate (width - length text) 32 ++ text

-- the rule that a View is
abbrev pub rule_text : ℕ → ℕ → List ℕ
rule_text number members =
    concat (codes "  -- view " ∷ decimal number ∷ codes ": " ∷ mask_text members ∷ codes " --" ∷ [])

-- a text with dashes behind it, so that it has at least this length
abbrev pub before_dashes : ℕ → List ℕ → List ℕ
before_dashes width text = text ++ replicate (width - length text) 45

-- the label of the row of an entry with this number
abbrev pub label_text : ℕ → Entry → List ℕ
label_text n (View age number members) =
    before_dashes 38 (behind_blanks 5 (decimal n) ++ rule_text number members)
label_text n (Msg sender index bytes) =
    concat
    (behind_blanks 5 (decimal n) ∷ codes "  " ∷ decimal sender ∷ codes "." ∷ decimal index ∷ codes " "
    ∷ message_text bytes ∷ [])

-- how many characters stand before the marks of a row, and that many blanks
unfoldable pub label_width : ℕ
label_width = 40

unfoldable pub margin : List ℕ
margin = replicate label_width 32

-- what stands between a label and the marks: blanks, or behind a long label a new line and the margin
abbrev pub gap_text : ℕ → List ℕ
gap_text width =
    if nat_le width label_width then replicate (label_width - width) 32 else codes "\n" ++ margin

-- a label, and what stands between it and the marks
abbrev pub in_column : List ℕ → List ℕ
in_column label = label ++ gap_text (length (chars label))

-- how far a member has come with the entry of this number: it knows that it is durable, has it on its log,
-- has delivered it, or none of these
abbrev pub mark_text : ℕ → MemberEnd → List ℕ
mark_text n m =
    if nat_lt n m.durable then codes "     durable"
    else (if nat_lt n m.logged then codes "      logged"
    else (if nat_lt n (length m.history) then codes "   delivered" else codes "           ."))

abbrev pub marks_text : List MemberEnd → ℕ → List ℕ
marks_text members n = flat_map (mark_text n) members

-- the row of an entry with this number
abbrev pub row_text : List MemberEnd → ℕ → Entry → List ℕ
row_text members n entry =
    concat (in_column (label_text n entry) ∷ marks_text members n ∷ codes "\n" ∷ [])

-- the rows of entries, the first of which has this number
abbrev pub rows_text : List MemberEnd → ℕ → List Entry → List ℕ
rows_text members first entries =
    flat_map (λ t. row_text members (first + t.0) t.1) (enumerate_from 0 entries)

-- the name of a member over its column
abbrev pub name_text : ℕ → List ℕ
name_text m = concat (replicate (5 - length (decimal m)) 32 ∷ codes "member " ∷ decimal m ∷ [])

-- how a member ended, below its name
abbrev pub end_name : End → List ℕ
end_name Done = codes "        done"
end_name Crashed = codes "     crashed"
end_name (Suspected by) = codes "   suspected"
end_name (Excluded view) = codes "    excluded"
end_name (NoMajority mask) = codes "  nomajority"
end_name DiskFault = codes "   diskfault"
end_name (LogFull len) = codes "     logfull"
end_name (Spent turns) = codes "       spent"
end_name Absent = codes "      absent"

-- the lines above the rows: the age's, the names of the members, and how they ended
unfoldable pub age_line : AgeEnd → List ℕ
age_line a =
    concat (codes "age " ∷ decimal a.age ∷ codes " start " ∷ decimal (length a.start) ∷ codes "\n" ∷ [])

unfoldable pub names_row : List MemberEnd → List ℕ
names_row members =
    concat (margin ∷ flat_map (λ t. name_text t.0) (enumerate_from 0 members) ∷ codes "\n" ∷ [])

unfoldable pub ends_row : List MemberEnd → List ℕ
ends_row members = concat (margin ∷ flat_map (λ (m : MemberEnd). end_name m.end) members ∷ codes "\n" ∷ [])

-- the table: the rows are the entries that the age has added to its start
unfoldable pub table_text : AgeEnd → List ℕ
table_text a =
    concat
    (age_line a ∷ names_row a.members ∷ ends_row a.members
    ∷ rows_text a.members (length a.start) (drop (length a.start) (longest a.members)) ∷ [])
