-- What a report is to keep: each clause as it speaks of an age, of a member or of an entry.
use Rattle.std.specs.List.{Any}
use Rattle.std.specs.Prelude.{◌≡◌, ◌≢◌, ◌⊎◌, ⊤, ℕ, zero, suc, ◌+◌, ◌*◌, ◌<◌, ◌≤◌, List, [], length, filter, take, All, Contains, slice_get, slice_index_or, Option, None, Some, IfSome, IsSomeAnd, true}
use Rattle.dr_entry.specs.declared.entry.Entry.{Entry, TheVariants.{View, Msg}}
use Rattle.dr_history.specs.{History.{GroupView, IsPrefixOf, view_of}, Members.{has, members_of}, Order.messages_from}
use Rattle.dr_history.specs.Soundness.{IsLaterAge}
use Rattle.dr_script.specs.declared.script.Script.{Script}
use Rattle.dr_text.specs.declared.last.Clause.{Clause}
use Rattle.dr_text.specs.declared.last.Clause.TheVariants as clauses
use Rattle.dr_check.specs.{Firsts.AllKeep, declared.report.{ReportAge.ReportAge, ReportMember.ReportMember}}

-- ---- whoever takes part

-- the member takes part in the age
abbrev pub TakesPart : ReportAge → ℕ → Type 0
TakesPart a s = IsSomeAnd (slice_get a.members s) (λ m. m.present ≡ true)

-- whom a View names
abbrev pub members_named : Option Entry → List ℕ
members_named None = []
members_named (Some (View age number members)) = members_of members
members_named (Some (Msg sender index bytes)) = []

-- the members of the age's View 0, which in a history stands right behind the start
abbrev pub first_members : ReportAge → ReportMember → List ℕ
first_members a m = members_named (slice_get m.history (length a.start))

-- a member is late where it takes part and is not in View 0
abbrev pub IsLate : ReportAge → ReportMember → ℕ → Type 0
IsLate a m s = TakesPart a s × (Contains (first_members a m) s → ⊥)

-- ---- messages

-- the sender of a message is in the last view before it
abbrev pub KeepsSender : List Entry → Entry → Type 0
KeepsSender before (View age number members) = ⊤
KeepsSender before (Msg sender index bytes) =
    IsSomeAnd (view_of before) (λ v. Contains v.members sender)

-- its index is the number of its sender's messages before it
abbrev pub KeepsIndex : List Entry → Entry → Type 0
KeepsIndex before (View age number members) = ⊤
KeepsIndex before (Msg sender index bytes) = index ≡ length (messages_from sender before)

-- its bytes are those of the script
abbrev pub KeepsBytes : Script → Entry → Type 0
KeepsBytes script (View age number members) = ⊤
KeepsBytes script (Msg sender index bytes) =
    slice_get (slice_index_or script.messages sender []) index ≡ Some bytes

-- ---- what an age starts with

-- a View that begins a later age, or goes on in one with the next number and other members
abbrev pub Continues : Option GroupView → ℕ → ℕ → ℕ → Type 0
Continues last age number members =
    ((number ≡ 0) × IsLaterAge last age)
    ⊎ IsSomeAnd last (λ v. (age ≡ v.age) × (number ≡ v.number + 1) × (members_of members ≢ v.members))

-- an entry may stand in a start behind these: a View has members, all of the roster
abbrev pub MayStart : Script → List Entry → Entry → Type 0
MayStart script before (View age number members) =
    (members_of members ≢ []) × All (λ s. s < script.members) (members_of members)
    × Continues (view_of before) age number members
MayStart script before (Msg sender index bytes) =
    KeepsSender before (Msg sender index bytes) × KeepsIndex before (Msg sender index bytes)
    × KeepsBytes script (Msg sender index bytes)

-- each entry of the start may stand there, and the age is above that of the last View
pub record KeepsStart (script : Script) (a : ReportAge) : Type 0 where
  pub entries : AllKeep (λ i e. MayStart script (take i a.start) e) a.start
  pub later : IsLaterAge (view_of a.start) a.age

-- ---- the views of a history

-- the entry is the View 0 of the age, and whoever is in it takes part
abbrev pub IsFirstView : ReportAge → Entry → Type 0
IsFirstView a (View age number members) =
    (age ≡ a.age) × (number ≡ 0) × All (TakesPart a) (members_of members)
IsFirstView a (Msg sender index bytes) = ⊥

-- the entry is a View of the age that names the member
abbrev pub Names : ReportAge → Entry → ℕ → Type 0
Names a (View age number members) s = (age ≡ a.age) × Contains (members_of members) s
Names a (Msg sender index bytes) s = ⊥

-- one of the entries is
abbrev pub WasNamed : ReportAge → List Entry → ℕ → Type 0
WasNamed a before s = Any (λ e. Names a e s) before

-- A View that may follow a view, at place i of a history: of the same age, with the next number and other
-- members, each of the roster, and more than half of the ones before among them. Whoever comes in is late
-- and was named by no earlier View of the age.
pub record MayComeNext (script : Script) (a : ReportAge) (m : ReportMember) (i : ℕ) (v : GroupView)
    (age number members : ℕ) : Type 0 where
  pub same_age : age ≡ v.age
  pub next_number : number ≡ v.number + 1
  pub other : members_of members ≢ v.members
  pub roster : All (λ s. s < script.members) (members_of members)
  pub majority : length v.members < 2 * length (filter (has members) v.members)
  pub newcomers : All
      (λ s. Contains v.members s ⊎ (IsLate a m s × (WasNamed a (take i m.history) s → ⊥)))
      (members_of members)

-- a View at place i of a history, behind View 0, follows the view before it
abbrev pub FollowsView : Script → ReportAge → ReportMember → ℕ → Entry → Type 0
FollowsView script a m i (View age number members) =
    IsSomeAnd (view_of (take i m.history)) (λ v. MayComeNext script a m i v age number members)
FollowsView script a m i (Msg sender index bytes) = ⊤

-- the first entry behind the start is View 0, and each later View may follow the one before
pub record KeepsView (script : Script) (a : ReportAge) (m : ReportMember) (i : ℕ) (e : Entry) : Type 0 where
  pub first : i ≡ length a.start → IsFirstView a e
  pub later : length a.start < i → FollowsView script a m i e

-- ---- several histories, and logs

-- a member that took part and has an entry at this place has this one
abbrev pub HasSame : ℕ → Entry → ReportMember → Type 0
HasSame i e m = m.present ≡ true → IfSome (slice_get m.history i) (λ x. x ≡ e)

-- so has each of the members before this one
abbrev pub KeepsPrefix : ReportAge → ℕ → ℕ → Entry → Type 0
KeepsPrefix a n i e = All (HasSame i e) (take n a.members)

-- how many entries are on the log of a member
abbrev pub log_of : Option ReportMember → ℕ
log_of None = 0
log_of (Some m) = m.logged

abbrev pub logged_by : ReportAge → ℕ → ℕ
logged_by a s = log_of (slice_get a.members s)

-- what the member knows to be durable is on the log of each of these
abbrev pub AreLogged : ReportAge → ReportMember → List ℕ → Type 0
AreLogged a m members = All (λ s. m.durable ≤ logged_by a s) members

-- the entry is a View of the age, and what the member knows to be durable is on the logs of its members
abbrev pub IsDurableView : ReportAge → ReportMember → Entry → Type 0
IsDurableView a m (View age number members) = (age ≡ a.age) × AreLogged a m (members_of members)
IsDurableView a m (Msg sender index bytes) = ⊥

-- A member has no more entries on its log than in its history. What it knows to be durable is on the logs
-- of all members of a View of the age that its history has: of the last one, where nobody is late.
pub record KeepsDurable (a : ReportAge) (m : ReportMember) : Type 0 where
  pub told : m.logged ≤ length m.history
  pub some : Any (IsDurableView a m) m.history
  pub last : ((s : ℕ) → IsLate a m s → ⊥)
      → IsSomeAnd (view_of m.history) (λ v. (v.age ≡ a.age) × AreLogged a m v.members)

-- a member that took part has delivered what an age starts with
abbrev pub HasDelivered : ReportAge → ReportMember → Type 0
HasDelivered next m = (m.present ≡ true) × IsPrefixOf next.start m.history

-- an age starts with all that a member knew to be durable, if it took part
abbrev pub IsKeptIn : ReportAge → ReportMember → Type 0
IsKeptIn next m = m.present ≡ true → IsPrefixOf (take m.durable m.history) next.start

-- An age keeps what another has delivered durably: it is a later one, what it starts with was delivered, and
-- it starts with all that some member knew to be durable.
pub record KeepsAge (a next : ReportAge) : Type 0 where
  pub later : a.age < next.age
  pub delivered : Any (HasDelivered next) a.members
  pub durable : All (IsKeptIn next) a.members

-- the age before this one
abbrev pub age_before : List ReportAge → ℕ → Option ReportAge
age_before ages zero = None
age_before ages (suc i) = slice_get ages i

-- ---- which clause speaks of what

-- what a clause says of age i of the report itself
abbrev pub AgeItself : Clause → Script → List ReportAge → ℕ → ReportAge → Type 0
AgeItself clauses.Start script ages i a = KeepsStart script a
AgeItself clauses.Kept script ages i a = IfSome (age_before ages i) (λ before. KeepsAge before a)
AgeItself _ script ages i a = ⊤

-- what it says of a member itself
abbrev pub MemberItself : Clause → ReportAge → ReportMember → Type 0
MemberItself clauses.View a m = length a.start < length m.history
MemberItself clauses.Durable a m = KeepsDurable a m
MemberItself _ a m = ⊤

-- what it says of an entry behind the start: entry i of the history of the member n
abbrev pub EntryItself : Clause → Script → ReportAge → ℕ → ReportMember → ℕ → Entry → Type 0
EntryItself clauses.View script a n m i e = KeepsView script a m i e
EntryItself clauses.Sender script a n m i e = KeepsSender (take i m.history) e
EntryItself clauses.Index script a n m i e = KeepsIndex (take i m.history) e
EntryItself clauses.Bytes script a n m i e = KeepsBytes script e
EntryItself clauses.Prefix script a n m i e = KeepsPrefix a n i e
EntryItself _ script a n m i e = ⊤
