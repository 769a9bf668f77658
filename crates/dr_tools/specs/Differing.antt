-- Entries by which two histories of an age differ.
use Rattle.std.specs.{Fmt.decimal, List.concat}
use Rattle.std.specs.Prelude.{◌≡◌, ◌≢◌, ℕ, ◌+◌, ◌-◌, ◌<◌, List, [], ◌∷◌, ◌++◌, codes, length, slice_get, Some}
use Rattle.dr_check.specs.{Clauses.KeepsPrefix, Firsts.AllKeep, Flaws.{line_behind, own_entries}}
use Rattle.dr_check.specs.declared.report.{Report.Report, ReportAge.ReportAge, ReportMember.ReportMember}
use Rattle.dr_entry.specs.declared.entry.Entry.{Entry}
use Rattle.dr_text.specs.Report.{entry_text}

-- a member has this entry at a place of its history, behind the start, and it stands at this line
pub record Stands (a : ReportAge) (m : ReportMember) (place line : ℕ) (e : Entry) : Type 0 where
  pub here : slice_get m.history place ≡ Some e
  pub line_is : line ≡ line_behind m (place - length a.start)

-- a member before member n has at a place another entry than this one: the one that stands at this line
pub record HasOther (a : ReportAge) (n place : ℕ) (e : Entry) (line : ℕ) (other : Entry) : Type 0 where
  pub number : ℕ
  pub member : ReportMember
  pub one : slice_get a.members number ≡ Some member
  pub earlier : number < n
  pub stands : Stands a member place line other
  pub differ : other ≢ e

-- member n has at some place the entry that stands at a line, and one before it has another one there
pub record DiffersOf (a : ReportAge) (n line : ℕ) (e : Entry) (before : ℕ) (other : Entry) : Type 0 where
  pub member : ReportMember
  pub one : slice_get a.members n ≡ Some member
  pub place : ℕ
  pub stands : Stands a member place line e
  pub against : HasOther a n place e before other

-- some member of an age does
pub record DiffersIn (a : ReportAge) (line : ℕ) (e : Entry) (before : ℕ) (other : Entry) : Type 0 where
  pub number : ℕ
  pub differs : DiffersOf a number line e before other

-- some member of an age of a report does
pub record Differs (r : Report) (line : ℕ) (e : Entry) (before : ℕ) (other : Entry) : Type 0 where
  pub number : ℕ
  pub age : ReportAge
  pub one : slice_get r.ages number ≡ Some age
  pub differs : DiffersIn age line e before other

-- an entry behind the line of the report at which it stands
abbrev pub told_entry : ℕ → Entry → List ℕ
told_entry line e = concat (codes "line " ∷ decimal line ∷ codes ":" ∷ entry_text e ∷ [])

-- the text shows two entries that differ, the later of which stands at this line
pub record ShowsDifference (r : Report) (line : ℕ) (text : List ℕ) : Type 0 where
  pub entry : Entry
  pub before : ℕ
  pub other : Entry
  pub differ : Differs r line entry before other
  pub shown : text ≡ told_entry before other ++ told_entry line entry

-- where an entry of a history stands at this line, those of the members before it are the same
abbrev pub AgreeAt : ℕ → ReportAge → ℕ → ReportMember → Type 0
AgreeAt line a n m = AllKeep (λ k e. line_behind m k ≡ line → KeepsPrefix a n (length a.start + k) e) (own_entries a m)

abbrev pub AgeAgreesAt : ℕ → ReportAge → Type 0
AgeAgreesAt line a = AllKeep (AgreeAt line a) a.members

abbrev pub ReportAgreesAt : ℕ → Report → Type 0
ReportAgreesAt line r = AllKeep (λ i a. AgeAgreesAt line a) r.ages
