-- How the members of an age are to end.
use Rattle.std.specs.Prelude.{◌≡◌, ◌≢◌, ◌⊎◌, ℕ, ◌+◌, ◌<◌, ◌≤◌, All, Any, Bool, true, false, Contains, List, [], ◌∷◌, ◌++◌, length, slice_get, take, Some}
use Rattle.dr_entry.specs.declared.{end.{End.End, MemberEnd.MemberEnd}, entry.Entry.{Entry, TheVariants.View}}
use Rattle.dr_entry.specs.declared.end.End.TheVariants.{Done, Crashed, Suspected, Excluded, NoMajority, DiskFault, LogFull, Spent}
use Rattle.dr_history.specs.{History.{IsPrefixOf, view_of}, Members.{has, members_of}}
use Rattle.dr_history.specs.{Order.{IsLateIn, first_entries, messages_from, numbered_messages}, Soundness.IsPresentIn}
use Rattle.dr_history.specs.declared.opening.Opening.{Opening}
use Rattle.dr_history_laws.specs.Remaining.{remaining}
use Rattle.dr_program.specs.{Program.absent_end, declared.setup.CrashPoint.CrashPoint}
use Rattle.dr_words.specs.Masks.{IsInRoster, IsMajorityOf, IsPartOf}

-- no crash point names a turn from 1 up to this one
abbrev pub IsBeforeCrash : List CrashPoint → ℕ → Type 0
IsBeforeCrash points turns = All (λ (c : CrashPoint). 1 ≤ c.turn → turns < c.turn) points

-- a history is in the view of this number, of which these are the members: its last View says so
abbrev pub LastViewIs : Opening → ℕ → ℕ → List Entry → Type 0
LastViewIs o number members history =
    view_of history ≡ Some (record { age = o.age; number = number; members = members_of members })

-- a member has ended as done in the view of this number and these members
pub record IsWhole (o : Opening) (ends : List MemberEnd) (number members : ℕ) (e : MemberEnd) : Type 0 where
  pub end : e.end ≡ Done
  -- it has all messages that the script gives the members of the view, and nobody has a message that it lacks,
  -- but for those of late members that aren't in the view, which may come into a later one
  pub whole : (s : ℕ) → has members s ≡ true → messages_from s e.history ≡ numbered_messages o s
  pub lacks_none : (s : ℕ) → (¬ IsLateIn o s) ⊎ (has members s ≡ true) → All (λ (other : MemberEnd).
      IsPrefixOf (messages_from s other.history) (messages_from s e.history)) ends
  -- all of it is logged and durable: each member of the view has it on its log
  pub logged : e.logged ≡ length e.history
  pub durable : e.durable ≡ length e.history
  pub kept : (i : ℕ) (other : MemberEnd) → has members i ≡ true → slice_get ends i ≡ Some other
      → IsPrefixOf e.history (take other.logged other.history)
  -- who is done in the same view has the same history, and in the first view it is that of a complete member
  pub same : (i : ℕ) (other : MemberEnd) → slice_get ends i ≡ Some other → other.end ≡ Done
      → LastViewIs o number members other.history → other.history ≡ e.history
  pub first : number ≡ 0 → e.history ≡ first_entries o ++ remaining o

-- a member that is done in the first view has ended as done: its history is the start, View 0, and all
-- messages that the start leaves, in the order of the round robin, and all of it is logged and durable
pub record IsComplete (o : Opening) (e : MemberEnd) : Type 0 where
  pub end : e.end ≡ Done
  pub history : e.history ≡ first_entries o ++ remaining o
  pub logged : e.logged ≡ length e.history
  pub durable : e.durable ≡ length e.history

-- all members have
abbrev pub AreComplete : Opening → List MemberEnd → Type 0
AreComplete o ends = (m : ℕ) (e : MemberEnd) → slice_get ends m ≡ Some e → IsComplete o e

-- a member of the view has ended so before any crash
pub record HasEndedDone (o : Opening) (ends : List MemberEnd) (number members : ℕ) (points : List CrashPoint)
    (e : MemberEnd) : Type 0 where
  pub whole : IsWhole o ends number members e
  pub uncrashed : IsBeforeCrash points e.turns

-- a member has ended with all its turns spent, before any crash
pub record IsSpent (limit : ℕ) (points : List CrashPoint) (e : MemberEnd) : Type 0 where
  pub end : e.end ≡ Spent limit
  pub turns : e.turns ≡ limit
  pub uncrashed : IsBeforeCrash points e.turns

-- a member has crashed, in the first turn that a crash point names
pub record HasCrashed (points : List CrashPoint) (e : MemberEnd) : Type 0 where
  pub end : e.end ≡ Crashed
  pub named : Any (λ (c : CrashPoint). c.turn ≡ e.turns) points
  pub first : All (λ (c : CrashPoint). 1 ≤ c.turn → e.turns ≤ c.turn) points

-- the end is that of a log that failed or was full
abbrev pub is_log_end : End → Bool
is_log_end DiskFault = true
is_log_end (LogFull len) = true
is_log_end end = false

-- a member has ended by its log, in no later turn than the first that a crash point names
pub record HasEndedByLog (points : List CrashPoint) (e : MemberEnd) : Type 0 where
  pub end : is_log_end e.end ≡ true
  pub first : All (λ (c : CrashPoint). 1 ≤ c.turn → e.turns ≤ c.turn) points

-- member m is in no view of this number that anybody has come to
abbrev pub GoOnWithout : Opening → List MemberEnd → ℕ → ℕ → Type 0
GoOnWithout o ends number m = All (λ (e : MemberEnd).
    (members : ℕ) → Contains e.history (View o.age number members) → has members m ≡ false) ends

-- the end of member m of the view of this number and these members is by suspicion: it names another member
-- of the view, or members of it, m itself among them, that are no majority, or the next view, which goes on
-- without m
abbrev pub IsLeftOut : Opening → List MemberEnd → ℕ → ℕ → ℕ → End → Type 0
IsLeftOut o ends number members m (Suspected by) = (has members by ≡ true) × (by ≢ m)
IsLeftOut o ends number members m (NoMajority mask) =
    (has mask m ≡ true) × IsPartOf mask members × (¬ IsMajorityOf mask members)
IsLeftOut o ends number members m (Excluded view) = (view ≡ number + 1) × GoOnWithout o ends view m
IsLeftOut o ends number members m end = ⊥

-- member m has been left out of the view, in no later turn than the first that a crash point names
pub record HasBeenLeft (o : Opening) (ends : List MemberEnd) (number members m : ℕ) (points : List CrashPoint)
    (e : MemberEnd) : Type 0 where
  pub end : IsLeftOut o ends number members m e.end
  pub first : All (λ (c : CrashPoint). 1 ≤ c.turn → e.turns ≤ c.turn) points

-- why member m of the view ended, with these crash points, where it takes at most so many turns
abbrev pub HasReason : Opening → List MemberEnd → ℕ → ℕ → ℕ → ℕ → List CrashPoint → MemberEnd → Type 0
HasReason o ends number members limit m points e =
    HasEndedDone o ends number members points e
    ⊎ (IsSpent limit points e
    ⊎ (HasCrashed points e ⊎ (HasEndedByLog points e ⊎ HasBeenLeft o ends number members m points e)))

-- a member has ended outside of the first view, with its turns spent, or crashed: it has put nothing, and has
-- the start and View 0 alone, all of it logged and durable
pub record HasEndedOutside (o : Opening) (limit : ℕ) (points : List CrashPoint) (e : MemberEnd) : Type 0 where
  pub reason : IsSpent limit points e ⊎ HasCrashed points e
  pub sent : e.sent ≡ record { number = 0; items = [] } ∷ []
  pub history : e.history ≡ first_entries o
  pub logged : e.logged ≡ length e.history
  pub durable : e.durable ≡ length e.history

-- member m has ended as it should, in the view that its history is in, which is of the roster, as a member of it,
-- or outside of the first view as a late one that hasn't joined
pub record HasEnded (o : Opening) (ends : List MemberEnd) (limit m : ℕ) (points : List CrashPoint)
    (e : MemberEnd) : Type 0 where
  pub number : ℕ
  pub members : ℕ
  pub view : LastViewIs o number members e.history
  pub roster : IsInRoster (length o.messages) members
  pub own : (has members m ≡ true) ⊎ (IsLateIn o m × (number ≡ 0))
  pub reason : HasReason o ends number members limit m points e
  pub outside : has members m ≡ false → HasEndedOutside o limit points e

-- all members that are there have, each with the crash points of its number; and who is absent tells nothing
pub record HaveEnded (o : Opening) (limit : ℕ) (points : ℕ → List CrashPoint) (ends : List MemberEnd)
    : Type 0 where
  pub each : (m : ℕ) (e : MemberEnd) → slice_get ends m ≡ Some e → IsPresentIn o m
      → HasEnded o ends limit m (points m) e
  pub absent : (m : ℕ) (e : MemberEnd) → slice_get ends m ≡ Some e → ¬ IsPresentIn o m → e ≡ absent_end
