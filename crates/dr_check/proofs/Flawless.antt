-- Reports that keep every clause have no flaw, and what is printed of agreed ages is one.
use Rattle.std.proofs.Common.{inl, inr, ℕ, List, All}
use Rattle.dr_entry.{specs.declared.end.AgeEnd.AgeEnd, proofs.{ListParts.each_at, ListPlaces.all_from_places}}
use Rattle.dr_script.specs.{Ranges.HasGroupRanges, declared.script.Script.Script}
use Rattle.dr_text.specs.{Report.report_text, declared.last.{Clause.Clause, Last.Last}}
use Rattle.dr_check.specs.Flaws.{AgeBreaks, AgeKeeps, IsFirstFlaw, IsRight, MemberBreaks, MemberKeeps}
use Rattle.dr_check.specs.{Grammar.IsReport, Lines.LastFits}
use Rattle.dr_check.specs.{Values.{HasSmallNumbers, IsAgreed, IsTellableAge, KeepEachOther}, declared.flaw.Flaw.Flaw}
use Rattle.dr_check.specs.declared.report.{Report.Report, ReportAge.ReportAge, ReportMember.ReportMember}
use Rattle.dr_check.proofs.{Fitting.agreed_fit, Passes.passes, Telling.told}

-- a member that keeps a clause doesn't break it
member_unbroken : (c : Clause) (script : Script) (a : ReportAge) (n : ℕ) (m : ReportMember) (line : ℕ)
    → MemberKeeps c script a n m → MemberBreaks c script a n m line → ⊥
member_unbroken c script a n m line keeps (present, inl itself) = itself.0 (keeps present).0
member_unbroken c script a n m line keeps (present, inr (good, first)) =
    first.breaks.0 ((keeps present).1 first.place first.one first.here)

-- nor does an age
age_unbroken : (c : Clause) (script : Script) (ages : List ReportAge) (i : ℕ) (a : ReportAge) (line : ℕ)
    → AgeKeeps c script ages i a → AgeBreaks c script ages i a line → ⊥
age_unbroken c script ages i a line keeps (inl itself) = itself.0 keeps.0
age_unbroken c script ages i a line keeps (inr (good, first)) =
    member_unbroken c script a first.place first.one line (keeps.1 first.place first.one first.here) first.breaks

-- so a report that keeps every clause has no first flaw
pub unflawed : (script : Script) (r : Report) (flaw : Flaw) → IsRight script r → IsFirstFlaw script r flaw → ⊥
unflawed script r flaw right is =
    let first = is.breaks in
    age_unbroken flaw.clause script r.ages first.place first.one flaw.line
    (right flaw.clause first.place first.one first.here) first.breaks

-- what is printed of agreed ages, each of which keeps what the one before it had
pub printed_right : (script : Script) (ages : List AgeEnd) (last : Last) → HasGroupRanges script
    → All (IsAgreed script) ages → KeepEachOther script ages → All HasSmallNumbers ages → LastFits last
    → (r : Report) × IsReport script.members (report_text ages last) r × IsRight script r
printed_right script ages last ranges agreed kept small fits =
    let r = told script.members ages last ranges.most_members (all_from_places (IsTellableAge script.members) ages
    (λ i a at. agreed_fit script a ranges (each_at (IsAgreed script) ages i a agreed at)
    (each_at HasSmallNumbers ages i a small at))) fits in
    (r.0, r.1, passes script ages r.0 ranges r.2 agreed kept)
