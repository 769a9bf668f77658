-- Reports that keep every clause, and the first flaw of any other: the first clause that is broken, and of
-- it the first age, of that the first member, and of that the first entry.
use Rattle.std.specs.Prelude.{◌≡◌, ◌⊎◌, ℕ, ◌+◌, ◌-◌, ◌^◌, ◌<◌, List, length, drop, min, true}
use Rattle.dr_entry.specs.declared.entry.Entry.{Entry}
use Rattle.dr_script.specs.declared.script.Script.{Script}
use Rattle.dr_text.specs.declared.last.Clause.{Clause}
use Rattle.dr_text.specs.declared.last.Clause.TheVariants.{Start, View, Sender, Index, Bytes, Prefix, Durable, Kept}
use Rattle.dr_check.specs.{Clauses.{AgeItself, MemberItself, EntryItself}, Firsts.{AllKeep, FirstBreaks}}
use Rattle.dr_check.specs.declared.{flaw.Flaw.Flaw, report.{Report.Report, ReportAge.ReportAge}}
use Rattle.dr_check.specs.declared.report.ReportMember.{ReportMember}

-- the line of entry k behind the start, in the history of a member; there is no line above the last number
abbrev pub line_behind : ReportMember → ℕ → ℕ
line_behind m k = min (m.line + 1 + k) (2 ^ 64 - 1)

-- the entries of a history behind the start
abbrev pub own_entries : ReportAge → ReportMember → List Entry
own_entries a m = drop (length a.start) m.history

-- entry k behind the start keeps the clause
abbrev pub EntryKeeps : Clause → Script → ReportAge → ℕ → ReportMember → ℕ → Entry → Type 0
EntryKeeps c script a n m k e = EntryItself c script a n m (length a.start + k) e

-- it breaks the clause, which is told at its line
abbrev pub EntryBreaks : Clause → Script → ReportAge → ℕ → ReportMember → ℕ → Entry → ℕ → Type 0
EntryBreaks c script a n m k e line =
    (EntryKeeps c script a n m k e → ⊥) × (line ≡ line_behind m k)

-- the member n keeps it, itself and by its entries; one that was absent has nothing to keep
abbrev pub MemberKeeps : Clause → Script → ReportAge → ℕ → ReportMember → Type 0
MemberKeeps c script a n m =
    m.present ≡ true
    → MemberItself c a m × AllKeep (EntryKeeps c script a n m) (own_entries a m)

-- it breaks it: itself, at its line, or else by its first entry that does
abbrev pub MemberBreaks : Clause → Script → ReportAge → ℕ → ReportMember → ℕ → Type 0
MemberBreaks c script a n m line =
    (m.present ≡ true)
    × (((MemberItself c a m → ⊥) × (line ≡ m.line))
    ⊎ (MemberItself c a m
    × FirstBreaks (EntryKeeps c script a n m) (EntryBreaks c script a n m) (own_entries a m) line))

-- age i keeps it, itself and by its members
abbrev pub AgeKeeps : Clause → Script → List ReportAge → ℕ → ReportAge → Type 0
AgeKeeps c script ages i a = AgeItself c script ages i a × AllKeep (MemberKeeps c script a) a.members

-- it breaks it: itself, at its line, or else by its first member that does
abbrev pub AgeBreaks : Clause → Script → List ReportAge → ℕ → ReportAge → ℕ → Type 0
AgeBreaks c script ages i a line =
    ((AgeItself c script ages i a → ⊥) × (line ≡ a.line))
    ⊎ (AgeItself c script ages i a
    × FirstBreaks (MemberKeeps c script a) (MemberBreaks c script a) a.members line)

-- the report keeps the clause
abbrev pub KeepsClause : Clause → Script → Report → Type 0
KeepsClause c script r = AllKeep (AgeKeeps c script r.ages) r.ages

-- it breaks it, first at this line
abbrev pub BreaksClause : Clause → Script → Report → ℕ → Type 0
BreaksClause c script r line =
    FirstBreaks (AgeKeeps c script r.ages) (AgeBreaks c script r.ages) r.ages line

-- the order of the clauses
abbrev pub rank : Clause → ℕ
rank Start = 0
rank View = 1
rank Sender = 2
rank Index = 3
rank Bytes = 4
rank Prefix = 5
rank Durable = 6
rank Kept = 7

-- a report that keeps every clause
abbrev pub IsRight : Script → Report → Type 0
IsRight script r = (c : Clause) → KeepsClause c script r

-- the first flaw of a report: the clauses before it are kept
pub record IsFirstFlaw (script : Script) (r : Report) (flaw : Flaw) : Type 0 where
  pub before : (c : Clause) → rank c < rank flaw.clause → KeepsClause c script r
  pub breaks : BreaksClause flaw.clause script r flaw.line
