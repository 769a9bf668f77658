-- What a try to open an age makes of the logs, wherever it is stopped.
use Rattle.std.specs.Prelude.{◌≡◌, ℕ, ◌⊎◌, true, false, List, [], ◌∷◌, ◌++◌, length, Contains, Some, slice_get}
use Rattle.dr_entry.specs.{declared.entry.Entry.{Entry, TheVariants.View}, declared.record.AgeVote.AgeVote}
use Rattle.dr_history.specs.{History.IsPrefixOf, Members.has, declared.opening.Opening.Opening}
use Rattle.dr_restart.specs.{Choosing.{IsChosenStart, of_set}, declared.lists.{Attempt.Attempt, LogLists.LogLists}}
use Rattle.dr_restart.specs.declared.start.Start.{Start}

-- View 0 of the age of a start, and the vote for this age
abbrev pub first_view_of : Start → Entry
first_view_of start = View start.age 0 start.members

abbrev pub age_vote_of : Start → AgeVote
age_vote_of start = record { age = start.age; members = start.members }

-- how the age of a start opens, by the roster and the messages of another
abbrev pub opened_by : Opening → Start → Opening
opened_by o start = record {
  age = start.age;
  members = start.members;
  present = start.present;
  start = start.entries;
  messages = o.messages;
}

-- log m, of the members of a set, among the logs of all members
abbrev pub IsLogIn : List LogLists → ℕ → ℕ → LogLists → Type 0
IsLogIn logs set m log = (has set m ≡ true) × (slice_get logs m ≡ Some log)

-- each log of the set has the age vote of the start
abbrev pub HaveAgeVote : List LogLists → ℕ → Start → Type 0
HaveAgeVote logs set start =
    (m : ℕ) (log : LogLists) → IsLogIn logs set m log → Contains log.age_votes (age_vote_of start)

-- the log is as before, or as before with the age vote
abbrev pub MayHaveAgeVote : Start → LogLists → LogLists → Type 0
MayHaveAgeVote start old new =
    (new ≡ old) ⊎ (new ≡ record old { age_votes = old.age_votes ++ age_vote_of start ∷ [] })

-- the entries begin with what these two lists have in common
abbrev pub BeginsWithCommon : List Entry → List Entry → List Entry → Type 0
BeginsWithCommon g h es = (front : List Entry) → IsPrefixOf front g → IsPrefixOf front h → IsPrefixOf front es

-- the entries are as before, or the first ones of the start followed by its View, and they begin with what
-- the old ones and the start have in common
abbrev pub MayBeBroughtUp : Start → List Entry → List Entry → Type 0
MayBeBroughtUp start old new =
    (new ≡ old)
    ⊎ (IsPrefixOf new (start.entries ++ first_view_of start ∷ []) × BeginsWithCommon old start.entries new)

-- a try by which some logs come to others
pub record IsTry (o : Opening) (before after : List LogLists) (try : Attempt) : Type 0 where
  -- the logs of a set make a start
  pub choice : IsChosenStart o (of_set before try.set) try.start
  pub set : try.set ≡ try.start.present
  -- the other logs are as before
  pub places : length after ≡ length before
  pub others : (m : ℕ) → has try.set m ≡ false → slice_get after m ≡ slice_get before m
  -- the votes stay on every log, and no age vote goes
  pub votes : (m : ℕ) (old new : LogLists) → slice_get before m ≡ Some old → slice_get after m ≡ Some new
      → (new.votes ≡ old.votes)
      × ((x : AgeVote) → Contains old.age_votes x → Contains new.age_votes x)
  -- it is opened exactly where each log of the set has the age vote
  pub opened : try.opened ≡ true → HaveAgeVote after try.set try.start
  pub unopened : try.opened ≡ false → ¬ HaveAgeVote after try.set try.start
  -- unless it is, nothing but age votes comes to the logs of the set
  pub waits : try.opened ≡ false → (m : ℕ) (old new : LogLists) → IsLogIn before try.set m old
      → slice_get after m ≡ Some new → MayHaveAgeVote try.start old new
  -- and then their entries may be brought up to the start
  pub brought : try.opened ≡ true → (m : ℕ) (old new : LogLists) → IsLogIn before try.set m old
      → slice_get after m ≡ Some new → MayBeBroughtUp try.start old.entries new.entries
