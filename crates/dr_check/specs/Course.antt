-- How a text is read, line by line: what may come next, by what has come.
use Rattle.std.specs.Prelude.{ℕ, suc, ◌+◌, ◌-◌, ◌&&◌, ◌==◌, nat_lt, nat_le, List, [], ◌∷◌, ◌++◌, map, Option, None, Some, true, false, if◌then◌else◌, option_and_then}
use Rattle.dr_entry.specs.declared.entry.Entry.{Entry}
use Rattle.dr_check.specs.declared.{course.Course.Course, report.{ReportAge.ReportAge, ReportMember.ReportMember}}
use Rattle.dr_check.specs.declared.line.Line.{Line, TheVariants.{Age, Present, Absent, Entry as EntryLine, Last}}

-- an entry may come
abbrev pub entry_course : Course → Line → Option Course
entry_course c (EntryLine e) = Some (record c { left = c.left - 1 })
entry_course c _ = None

-- the next member may come, with no fewer entries than the start has
abbrev pub member_course : Course → Line → Option Course
member_course c (Present member history logged durable) =
    if (member == c.member) && nat_le c.start history
    then Some (record c { left = history - c.start; member = c.member + 1 })
    else None
member_course c (Absent member) =
    if member == c.member then Some (record c { member = c.member + 1 }) else None
member_course c _ = None

-- an age may come, or the last line
abbrev pub age_course : Course → Line → Option Course
age_course c (Age age start) = Some (record { start = start; left = start; member = 0; ended = false })
age_course c Last = Some (record c { ended = true })
age_course c _ = None

-- what comes of a line, where it may come
abbrev pub next_course : ℕ → Course → Line → Option Course
next_course members c line =
    if c.ended
    then None
    else (if nat_lt 0 c.left
    then entry_course c line
    else (if nat_lt c.member members then member_course c line else age_course c line))

-- what comes of lines
unfoldable pub course_after : ℕ → Course → List Line → Option Course
course_after members c [] = Some c
course_after members c (line ∷ rest) = option_and_then (λ d. course_after members d rest)
    (next_course members c line)

-- how it begins
abbrev pub beginning : ℕ → Course
beginning members = record { start = 0; left = 0; member = members; ended = false }

-- ---- what was read

-- what lines up to the last say: entries, members without the start before their entries, and ages
pub record Read : Type 0 where
  pub entries : List Entry
  pub members : List ReportMember
  pub ages : List ReportAge

-- a member with the start before its entries, where it took part
abbrev pub with_start : List Entry → ReportMember → ReportMember
with_start start m = if m.present then record m { history = start ++ m.history } else m

-- a line more, in front of the others
abbrev pub put_line : ℕ → Line → Read → Read
put_line n (EntryLine e) t = record t { entries = e ∷ t.entries }
put_line n (Present member history logged durable) t = record t {
  entries = [];
  members = record {
    line = n;
    present = true;
    history = t.entries;
    logged = logged;
    durable = durable;
  } ∷ t.members;
}
put_line n (Absent member) t = record t {
  entries = [];
  members = record { line = n; present = false; history = []; logged = 0; durable = 0 } ∷ t.members;
}
put_line n (Age age start) t = record {
  entries = [];
  members = [];
  ages = record {
    age = age;
    line = n;
    start = t.entries;
    members = map (with_start t.entries) t.members;
  } ∷ t.ages;
}
put_line n Last t = t

-- what the lines say, the first of which has this number
unfoldable pub read_from : ℕ → List Line → Read
read_from n [] = record { entries = []; members = []; ages = [] }
read_from n (line ∷ rest) = put_line n line (read_from (suc n) rest)
