-- The ages that logs know: of their Views, of their votes and of their age votes.
use Rattle.std.specs.Prelude.{◌≡◌, ℕ, ◌≤◌, nat_lt, if◌then◌else◌, List, Contains, Option, None, Some}
use Rattle.dr_entry.specs.{declared.entry.Entry.{Entry, TheVariants.{View, Msg}}, declared.record.AgeVote.AgeVote}
use Rattle.dr_entry.specs.declared.record.Vote.{Vote}
use Rattle.dr_history.specs.History.{view_of}
use Rattle.dr_restart.specs.{Choosing.Handed, declared.lists.LogLists.LogLists}

-- the greatest of the ages of a kind, and none where there is none
pub record IsGreatestAge (P : ℕ → Type 0) (best : Option ℕ) : Type 0 where
  pub one : (a : ℕ) → best ≡ Some a → P a
  pub most : (a : ℕ) → P a → (b : ℕ) × (best ≡ Some b) × (a ≤ b)

-- the greater one of two ages, or the only one
abbrev pub later_age : Option ℕ → Option ℕ → Option ℕ
later_age None other = other
later_age (Some a) None = Some a
later_age (Some a) (Some b) = if nat_lt a b then Some b else Some a

-- the age of an entry, where it is a View
abbrev pub age_of_view : Entry → Option ℕ
age_of_view (View age number members) = Some age
age_of_view (Msg s index bytes) = None

-- one of the entries is a View of this age, and one of the votes, or age votes, is of it
abbrev pub HasViewOfAge : List Entry → ℕ → Type 0
HasViewOfAge es age = (number : ℕ) × (members : ℕ) × Contains es (View age number members)

abbrev pub HasVoteOfAge : List Vote → ℕ → Type 0
HasVoteOfAge votes age = (x : Vote) × Contains votes x × (x.age ≡ age)

abbrev pub HasAgeVoteOf : List AgeVote → ℕ → Type 0
HasAgeVoteOf votes age = (x : AgeVote) × Contains votes x × (x.age ≡ age)

-- what is said of logs and ages holds of the log in a place, where there is one
abbrev pub OfLog : (LogLists → ℕ → Type 0) → Option LogLists → ℕ → Type 0
OfLog says None age = ⊥
OfLog says (Some log) age = says log age

-- or of some log that was handed in
abbrev pub OfSomeLog : (LogLists → ℕ → Type 0) → Handed → ℕ → Type 0
OfSomeLog says h age = (m : ℕ) × (log : LogLists) × (h m ≡ Some log) × says log age

-- no log that was handed in has a View
abbrev pub HaveNoView : Handed → Type 0
HaveNoView h = (m : ℕ) (log : LogLists) → h m ≡ Some log → view_of log.entries ≡ None
