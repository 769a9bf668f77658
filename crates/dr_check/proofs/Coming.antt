-- The lines of a report may come, and lines that may come can be brought to an end.
use Rattle.std.{specs.List.flat_map, proofs.lemmas.List.Elements.{All-head, All-tail}}
use Rattle.std.proofs.Common.{◌≡◌, inl, inr, refl, sym, ap, ◌∙◌, ℕ, suc, ◌+◌, ◌-◌, ◌<◌, arith, true, false, nat_le, eqb, List, [], ◌∷◌, ◌++◌, length, map, drop, All, Some, append_assoc, length-append, length-drop}
use Rattle.dr_entry.{specs.declared.entry.Entry.Entry, proofs.Entries.drop_none}
use Rattle.dr_check.specs.{Course.{course_after, beginning, next_course}, declared.report.ReportMember.ReportMember}
use Rattle.dr_check.specs.Grammar.{HasStart, IsWholeAge, age_lines, member_head, member_lines, members_lines, report_lines}
use Rattle.dr_check.specs.declared.{course.Course.Course, report.Report.Report}
use Rattle.dr_check.{specs.declared.line.Line.Line, proofs.Accepting.{after_next, next_age, next_left, next_member}}
use Rattle.dr_check.specs.declared.{line.Line.TheVariants.{Age, Entry as EntryLine, Last}, report.ReportAge.ReportAge}

-- not ended
abbrev pub at : ℕ → ℕ → ℕ → Course
at start left member = record { start = start; left = left; member = member; ended = false }

entries_come : (members s i k : ℕ) (es : List Entry) (rest : List Line) → course_after members (at s
    (length es + k) i) (map (λ e. EntryLine e) es ++ rest) ≡ course_after members (at s k i) rest
entries_come members s i k [] rest =
    let e : length {A = Entry} [] + k ≡ k = omega arith in ap (λ n. course_after members (at s n i) rest) e
entries_come members s i k (e ∷ es) rest =
    let m = length es + k in
    let ls = map (λ e. EntryLine e) es ++ rest in
    let more : length (e ∷ es) + k ≡ suc m = omega arith in
    let less : suc m - 1 ≡ m = omega arith in
    ap (λ n. course_after members (at s n i) (EntryLine e ∷ ls)) more ∙ (after_next members (at s (suc m) i)
    (at s (suc m - 1) i) (EntryLine e) ls (next_left members (at s (suc m) i) (EntryLine e) refl (omega arith))
    ∙ (ap (λ n. course_after members (at s n i) ls) less ∙ entries_come members s i k es rest))

-- a member comes
member_next : (members i : ℕ) (start : List Entry) (m : ReportMember) → i < members → HasStart start m
    → next_course members (at (length start) 0 i) (member_head i m)
    ≡ Some (at (length start) (length (drop (length start) m.history)) (i + 1))
member_next members i start m less (inl there) =
    let first = next_member members (at (length start) 0 i) (member_head i m) refl refl less in
    let long : nat_le (length start) (length m.history) ≡ true =
    grind (arith, sym (ap length there.1.1) ∙ length-append start there.1.0) in
    let same : eqb i i ≡ true = grind arith in first ∙ (rw (there.0, same, long, length-drop) refl)
member_next members i start m less (inr absent) =
    let first = next_member members (at (length start) 0 i) (member_head i m) refl refl less in
    let same : eqb i i ≡ true = grind arith in first ∙ rw (absent.0, same, absent.1, drop_none) refl

members_come : (members : ℕ) (start : List Entry) (ms : List ReportMember) (i : ℕ) → i + length ms ≡ members
    → All (HasStart start) ms → (rest : List Line)
    → course_after members (at (length start) 0 i) (members_lines (length start) i ms ++ rest)
    ≡ course_after members (at (length start) 0 members) rest
members_come members start [] i all whole rest =
    let e : i ≡ members = omega (arith, all) in ap (λ n. course_after members (at (length start) 0 n) rest) e
members_come members start (m ∷ ms) i all whole rest =
    let s = length start in
    let own = drop s m.history in
    let ls = members_lines s (i + 1) ms ++ rest in
    let none : length own ≡ length own + 0 = omega arith in
    ap (course_after members (at s 0 i)) (append_assoc (member_lines s (i, m)) (members_lines s (i + 1) ms) rest)
    ∙ (after_next members (at s 0 i) (at s (length own) (i + 1)) (member_head i m) (map (λ e. EntryLine e) own ++ ls)
    (member_next members i start m (omega (arith, all)) (All-head (HasStart start) m ms whole))
    ∙ (ap (λ n. course_after members (at s n (i + 1)) (map (λ e. EntryLine e) own ++ ls)) none
    ∙ (entries_come members s (i + 1) 0 own ls
    ∙ members_come members start ms (i + 1) (omega (arith, all)) (All-tail (HasStart start) m ms whole) rest)))

ages_come : (members s : ℕ) (ages : List ReportAge) → All (IsWholeAge members) ages → (d : Course)
    × (course_after members (at s 0 members) (flat_map age_lines ages ++ Last ∷ []) ≡ Some d) × (d.ended ≡ true)
unfolding course_after
ages_come members s [] whole =
    let d : Course = record (at s 0 members) { ended = true } in (
      d,
      after_next members (at s 0 members) d Last [] (next_age members (at s 0 members) Last refl refl (omega arith)),
      refl,
    )
ages_come members s (a ∷ ages) whole =
    let n = length a.start in
    let mine = All-head (IsWholeAge members) a ages whole in
    let others = flat_map age_lines ages ++ Last ∷ [] in
    let rest = ages_come members n ages (All-tail (IsWholeAge members) a ages whole) in
    let ms = members_lines n 0 a.members in
    let none : n ≡ n + 0 = omega arith in (
      rest.0,
      ap (course_after members (at s 0 members)) (append_assoc (age_lines a) (flat_map age_lines ages) (Last ∷ []))
          ∙ (after_next members (at s 0 members) (at n n 0) (Age a.age n)
          ((map (λ e. EntryLine e) a.start ++ ms) ++ others)
          (next_age members (at s 0 members) (Age a.age n) refl refl (omega arith))
          ∙ (ap (course_after members (at n n 0)) (append_assoc (map (λ e. EntryLine e) a.start) ms others)
          ∙ (ap (λ k. course_after members (at n k 0) (map (λ e. EntryLine e) a.start ++ (ms ++ others))) none
          ∙ (entries_come members n 0 0 a.start (ms ++ others)
          ∙ (members_come members a.start a.members 0 (omega (arith, mine.0)) mine.1 others ∙ rest.1))))),
      rest.2,
    )

-- the lines of a report may come, and the last is the end
pub report_comes : (members : ℕ) (r : Report) → All (IsWholeAge members) r.ages
    → (d : Course) × (course_after members (beginning members) (report_lines r) ≡ Some d) × (d.ended ≡ true)
report_comes members r whole = ages_come members 0 r.ages whole
