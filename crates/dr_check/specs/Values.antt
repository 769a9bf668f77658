-- Reports of ages that have ended.
use Rattle.std.specs.{List.AllZip, Option.option_map_or}
use Rattle.std.specs.Prelude.{◌≡◌, ◌⊎◌, ℕ, suc, ◌^◌, ◌<◌, not, Bool, false, List, [], All, find, length, slice_get, Option, None, Some, option_and_then}
use Rattle.dr_entry.specs.declared.end.{AgeEnd.AgeEnd, End.TheVariants.Absent, MemberEnd.MemberEnd}
use Rattle.dr_entry.specs.declared.entry.Entry.{Entry, TheVariants.{View, Msg}}
use Rattle.dr_history.specs.{Agreement.{EndsAgreed, accounts_of}, History.IsPrefixOf, Restarting.Kept}
use Rattle.dr_history.specs.{Soundness.Sound, declared.opening.Opening.Opening}
use Rattle.dr_script.specs.declared.script.Script.{Script}
use Rattle.dr_text.specs.Report.{is_absent}
use Rattle.dr_words.specs.Masks.{mask_of}
use Rattle.dr_check.specs.{Lines.{EndFits, EntryFits, IsLong}, declared.report.{Report.Report, ReportAge.ReportAge}}
use Rattle.dr_check.specs.declared.report.ReportMember.{ReportMember}

-- by the ends of an age, the member with this number took part: it has one, and not that of an absent member
abbrev pub took_part : List MemberEnd → ℕ → Bool
took_part ends m = option_map_or (λ (e : MemberEnd). not (is_absent e.end)) (slice_get ends m) false

-- the mask of the View that stands at a place, and 0 where none does
abbrev pub mask_named : Option Entry → ℕ
mask_named None = 0
mask_named (Some (View age number members)) = members
mask_named (Some (Msg sender index bytes)) = 0

-- the mask of an age's View 0, which stands right behind the start: by the history of the first member that
-- took part
abbrev pub told_members : AgeEnd → ℕ
told_members a =
    mask_named
    (option_and_then (λ (e : MemberEnd). slice_get e.history (length a.start))
    (find (λ (e : MemberEnd). not (is_absent e.end)) a.members))

-- how an age of a script opened: with the members that took part, of whom those that aren't late were in View 0
abbrev pub told_opening : Script → AgeEnd → Opening
told_opening script a = record {
  age = a.age;
  members = told_members a;
  present = mask_of (took_part a.members);
  start = a.start;
  messages = script.messages;
}

-- a member of a report has the values of one that has ended, and took part exactly where that one did
pub record HasMember (e : MemberEnd) (m : ReportMember) : Type 0 where
  pub present : m.present ≡ not (is_absent e.end)
  pub history : m.history ≡ e.history
  pub logged : m.logged ≡ e.logged
  pub durable : m.durable ≡ e.durable

-- an age of a report has the values of one that has ended
pub record HasAge (e : AgeEnd) (a : ReportAge) : Type 0 where
  pub age : a.age ≡ e.age
  pub start : a.start ≡ e.start
  pub members : AllZip HasMember e.members a.members

-- a report has the values of ages, one by one
abbrev pub HasValues : List AgeEnd → Report → Type 0
HasValues ages r = AllZip HasAge ages r.ages

-- an age that has ended, with an end for each member of the roster, and those that took part agree
pub record IsAgreed (script : Script) (a : AgeEnd) : Type 0 where
  pub all : length a.members ≡ script.members
  pub sound : Sound (told_opening script a)
  pub agreed : EndsAgreed (told_opening script a) a.members

-- each age keeps what the one before it had
abbrev pub KeepEachOther : Script → List AgeEnd → Type 0
KeepEachOther script ages =
    (i : ℕ) (a next : AgeEnd) → slice_get ages i ≡ Some a → slice_get ages (suc i) ≡ Some next
    → Kept (told_opening script a) (accounts_of a.members) (told_opening script next)

-- a member that was absent has no entries, and the numbers 0
pub record TellsNothing (e : MemberEnd) : Type 0 where
  pub absent : e.end ≡ Absent
  pub history : e.history ≡ []
  pub logged : e.logged ≡ 0
  pub durable : e.durable ≡ 0

-- the numbers of a member that took part are such as its lines tell, and its history begins with the start
pub record TellsPart (start : List Entry) (e : MemberEnd) : Type 0 where
  pub begins : IsPrefixOf start e.history
  pub entries : All EntryFits e.history
  pub ended : EndFits e.end
  pub history : IsLong (length e.history)
  pub logged : IsLong e.logged
  pub durable : IsLong e.durable

-- a member that has ended is told by lines
abbrev pub IsTellable : List Entry → MemberEnd → Type 0
IsTellable start e = TellsPart start e ⊎ TellsNothing e

-- so are those of an age with so many members
pub record IsTellableAge (members : ℕ) (a : AgeEnd) : Type 0 where
  pub age : a.age < 2 ^ 16
  pub all : length a.members ≡ members
  pub entries : All EntryFits a.start
  pub start : IsLong (length a.start)
  pub ends : All (IsTellable a.start) a.members

-- the number of an age, and those of the ends of its members that took part, are such as its lines tell; the others
-- tell nothing
pub record HasSmallNumbers (a : AgeEnd) : Type 0 where
  pub age : a.age < 2 ^ 16
  pub ends : All (λ (e : MemberEnd). EndFits e.end ⊎ TellsNothing e) a.members
