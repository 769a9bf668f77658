-- What is known of the ages that a right report tells.
use Rattle.std.specs.List.{enumerate_from}
use Rattle.std.specs.Prelude.{◌≡◌, ℕ, ◌<◌, ◌≤◌, List, [], ◌∷◌, ◌++◌, length, map, take, All, Contains, slice_get, slice_index_or, Some, IsSomeAnd, true}
use Rattle.dr_entry.specs.declared.entry.Entry.{Entry, TheVariants.{View, Msg}}
use Rattle.dr_history.specs.{Agreement.SamePast, History.{IsPrefixOf, view_of}, Members.members_of}
use Rattle.dr_history.specs.{Order.messages_from, Restarting.AreAlong}
use Rattle.dr_script.specs.declared.script.Script.{Script}
use Rattle.dr_check.specs.{Clauses.{IsLate, MayComeNext, TakesPart, logged_by}, declared.report.ReportAge.ReportAge}
use Rattle.dr_check.specs.declared.report.ReportMember.{ReportMember}

-- the member with this number took part in the age
abbrev pub HasPart : ReportAge → ℕ → ReportMember → Type 0
HasPart a i m = (slice_get a.members i ≡ Some m) × (m.present ≡ true)

-- the script's messages of a sender as entries, numbered from 0
abbrev pub scripted_messages : Script → ℕ → List Entry
scripted_messages script s =
    map (λ t. Msg s t.0 t.1) (enumerate_from 0 (slice_index_or script.messages s []))

-- A history is in order, but for the places at which its messages were sent, which a report doesn't tell.
pub record IsOrdered (script : Script) (a : ReportAge) (m : ReportMember) : Type 0 where
  -- it begins with the start, followed by View 0 of members that took part
  pub begins : (mask : ℕ) × All (TakesPart a) (members_of mask)
      × IsPrefixOf (a.start ++ View a.age 0 mask ∷ []) m.history
  -- each later View may follow the view before it
  pub views : (i age number mask : ℕ) → length a.start < i
      → slice_get m.history i ≡ Some (View age number mask)
      → IsSomeAnd (view_of (take i m.history)) (λ v. MayComeNext script a m i v age number mask)
  -- each message is from a member of the view before it
  pub senders : (i s index : ℕ) (bytes : List ℕ) → slice_get m.history i ≡ Some (Msg s index bytes)
      → IsSomeAnd (view_of (take i m.history)) (λ v. Contains v.members s)
  -- each sender's messages are its first ones by the script, in their order
  pub numbered : (s : ℕ) → IsPrefixOf (messages_from s m.history) (scripted_messages script s)

-- What a member knows to be durable stands on the logs of all members of a view of the age that it was in:
-- of its last view, where nobody is late.
pub record IsOnLogs (a : ReportAge) (m : ReportMember) : Type 0 where
  pub some : (i : ℕ) × (number : ℕ) × (mask : ℕ) × (slice_get m.history i ≡ Some (View a.age number mask))
      × All (λ s. m.durable ≤ logged_by a s) (members_of mask)
  pub last : ((s : ℕ) → IsLate a m s → ⊥)
      → IsSomeAnd (view_of m.history) (λ v. All (λ s. m.durable ≤ logged_by a s) v.members)

-- the members that took part in an age agree
pub record AreAgreed (script : Script) (a : ReportAge) : Type 0 where
  -- of any two histories, one is a prefix of the other
  pub prefix : (i j : ℕ) (m o : ReportMember) → HasPart a i m → HasPart a j o → AreAlong m.history o.history
  -- each is in order
  pub ordered : (i : ℕ) (m : ReportMember) → HasPart a i m → IsOrdered script a m
  -- members that installed the same view had the same history before it
  pub same_past : (i j : ℕ) (m o : ReportMember) → HasPart a i m → HasPart a j o
      → SamePast m.history o.history
  -- nobody has more entries on its log than in its history
  pub logged : (i : ℕ) (m : ReportMember) → HasPart a i m → m.logged ≤ length m.history
  -- what a member knows to be durable stands on logs
  pub durable : (i : ℕ) (m : ReportMember) → HasPart a i m → IsOnLogs a m

-- An age keeps what the one before it delivered durably: it is a later one, what it starts with was
-- delivered, and it starts with all that some member knew to be durable.
pub record IsKeptBy (a next : ReportAge) : Type 0 where
  pub later : a.age < next.age
  pub delivered : (i : ℕ) × (m : ReportMember) × HasPart a i m × IsPrefixOf next.start m.history
  pub durable : (i : ℕ) (m : ReportMember) → HasPart a i m → IsPrefixOf (take m.durable m.history) next.start
