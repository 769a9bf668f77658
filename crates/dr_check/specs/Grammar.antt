-- Which texts are reports, of which values, and the first line at which a text is none.
use Rattle.std.specs.List.{AllZip, enumerate_from, flat_map}
use Rattle.std.specs.Prelude.{◌≡◌, ⊤, ◌⊎◌, ℕ, ◌+◌, List, [], ◌∷◌, ◌++◌, length, map, take, drop, All, slice_get, true, false, if◌then◌else◌}
use Rattle.dr_entry.specs.declared.entry.Entry.{Entry}
use Rattle.dr_history.specs.History.{IsPrefixOf}
use Rattle.dr_check.specs.{Lines.{IsLineText, lines_of}, declared.{line.Line.Line, report.Report.Report}}
use Rattle.dr_check.specs.declared.report.{ReportAge.ReportAge, ReportMember.ReportMember}
use Rattle.dr_check.specs.declared.line.Line.TheVariants as lines

-- the line of a member with this number
abbrev pub member_head : ℕ → ReportMember → Line
member_head number m =
    if m.present then lines.Present number (length m.history) m.logged m.durable else lines.Absent number

-- the lines of a member, in an age that started with so many entries: its own, and those of the entries
-- behind these
abbrev pub member_lines : ℕ → ℕ × ReportMember → List Line
member_lines start t = member_head t.0 t.1 ∷ map (λ e. lines.Entry e) (drop start t.1.history)

-- the lines of members, numbered from this one
abbrev pub members_lines : ℕ → ℕ → List ReportMember → List Line
members_lines start number ms = flat_map (member_lines start) (enumerate_from number ms)

-- the lines of an age: its own, those of its start, and those of its members
abbrev pub age_lines : ReportAge → List Line
age_lines a =
    lines.Age a.age (length a.start)
    ∷ (map (λ e. lines.Entry e) a.start ++ members_lines (length a.start) 0 a.members)

-- the lines of a report: those of its ages, and a last one
abbrev pub report_lines : Report → List Line
report_lines r = flat_map age_lines r.ages ++ lines.Last ∷ []

-- a member's history begins with the start; where it was absent, it has none
abbrev pub HasStart : List Entry → ReportMember → Type 0
HasStart start m =
    ((m.present ≡ true) × IsPrefixOf start m.history)
    ⊎ ((m.present ≡ false) × (m.history ≡ []) × (m.logged ≡ 0) × (m.durable ≡ 0))

-- an age has so many members, and each is whole
abbrev pub IsWholeAge : ℕ → ReportAge → Type 0
IsWholeAge members a = (length a.members ≡ members) × All (HasStart a.start) a.members

-- members stand one behind the other from this line on
abbrev pub MembersFrom : ℕ → ℕ → List ReportMember → Type 0
MembersFrom start line [] = ⊤
MembersFrom start line (m ∷ ms) =
    (m.line ≡ line) × MembersFrom start (line + (1 + length (drop start m.history))) ms

-- and so do ages
abbrev pub AgesFrom : ℕ → List ReportAge → Type 0
AgesFrom line [] = ⊤
AgesFrom line (a ∷ ages) =
    (a.line ≡ line) × MembersFrom (length a.start) (line + (1 + length a.start)) a.members
    × AgesFrom (line + length (age_lines a)) ages

-- a text is a report with these values, of so many members
pub record IsReport (members : ℕ) (text : List ℕ) (r : Report) : Type 0 where
  pub lines : AllZip IsLineText (report_lines r) (lines_of text)
  pub whole : All (IsWholeAge members) r.ages
  pub numbered : AgesFrom 1 r.ages

-- A text is no report at a line, counted from 1: there are reports with the lines before it, and none of
-- them has it in its place. Where the text ends there, each of them has a line more.
pub record IsNoReportAt (members : ℕ) (text : List ℕ) (line : ℕ) : Type 0 where
  pub place : ℕ
  pub counted : line ≡ place + 1
  pub front : (other : List ℕ) × (r : Report) × IsReport members other r
      × (take place (lines_of other) ≡ take place (lines_of text))
  pub none : (other : List ℕ) (r : Report) → IsReport members other r
      → take place (lines_of other) ≡ take place (lines_of text)
      → slice_get (lines_of other) place ≡ slice_get (lines_of text) place → ⊥
