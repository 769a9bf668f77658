-- What the logs hold after any list of tries to open an age, since an age has ended and has left others.
use Rattle.std.specs.Prelude.{◌≡◌, ℕ, ◌<◌, ◌≤◌, ◌⊎◌, true, List, ◌∷◌, ◌++◌, length, take, Contains, Some, slice_get}
use Rattle.dr_entry.specs.{declared.entry.Entry.{Entry, TheVariants.View}, declared.record.Vote.Vote}
use Rattle.dr_history.specs.{History.IsPrefixOf, Restarting.AllStand, Soundness.{Sound, whole_roster}}
use Rattle.dr_history.specs.declared.opening.Opening.{Opening}
use Rattle.dr_machine.specs.{Group.{Group, IsPresent, roster}, World.World}
use Rattle.dr_restart.specs.{Left.IsOfEarlierAges, Trying.{HaveAgeVote, first_view_of, opened_by}}
use Rattle.dr_restart.specs.declared.{lists.{Attempt.Attempt, LogLists.LogLists}, start.Start.Start}
use Rattle.dr_words.specs.Masks.{IsMajorityOf, IsPartOf}

-- the history of a member that is there, of which those of all others are prefixes
pub record IsLongestHistory (g : Group) (w : World) (history : List Entry) : Type 0 where
  pub one : (m : ℕ) × IsPresent g m × (w.past.history m ≡ history)
  pub longest : (m : ℕ) → IsPresent g m → IsPrefixOf (w.past.history m) history

-- one of the tries was opened
abbrev pub IsOpenedTry : List Attempt → Attempt → Type 0
IsOpenedTry tries try = (k : ℕ) × (slice_get tries k ≡ Some try) × (try.opened ≡ true)

-- an age may start with what each try had chosen
abbrev pub AreSoundTries : Opening → List Attempt → Type 0
AreSoundTries o tries =
    (k : ℕ) (try : Attempt) → slice_get tries k ≡ Some try → Sound (opened_by o try.start)

-- each of the entries is the View of an opened try
abbrev pub AreTheirViews : List Attempt → List Entry → Type 0
AreTheirViews tries views = (k : ℕ) (e : Entry) → slice_get views k ≡ Some e
    → (try : Attempt) × IsOpenedTry tries try × (e ≡ first_view_of try.start)

-- the entries are these first ones of a history, and behind them Views of opened tries or nothing
pub record GoesOnFrom (history : List Entry) (tries : List Attempt) (front entries : List Entry)
    : Type 0 where
  pub views : List Entry
  pub is : entries ≡ front ++ views
  pub delivered : IsPrefixOf front history
  pub opened : AreTheirViews tries views

-- the entries without the Views of opened tries at their end were delivered, and begin with all that some
-- member knew to be durable
pub record KeepsDurable (g : Group) (w : World) (history : List Entry) (tries : List Attempt)
    (entries : List Entry) : Type 0 where
  pub front : List Entry
  pub goes : GoesOnFrom history tries front entries
  pub durable : (m : ℕ) → IsPresent g m → IsPrefixOf (take (w.past.durable m) (w.past.history m)) front

-- no vote on any log is of a later age than this
abbrev pub HaveNoLaterVotes : ℕ → List LogLists → Type 0
HaveNoLaterVotes age logs = (m : ℕ) (log : LogLists) (x : Vote) → slice_get logs m ≡ Some log
    → Contains log.votes x → x.age ≤ age

-- a log that holds View 0 of the age goes on from a front of the history; any other is one that the script
-- can have brought about, of earlier ages
abbrev pub IsOfAgeOrEarlier : Group → List Entry → List Attempt → LogLists → Type 0
IsOfAgeOrEarlier g history tries log =
    (((members : ℕ) × Contains log.entries (View g.opening.age 0 members))
    × (front : List Entry) × GoesOnFrom history tries front log.entries)
    ⊎ (AllStand g.opening log.entries × IsOfEarlierAges g.opening.age log)

-- these logs may have come of those that were left, by the tries
pub record HoldSince (g : Group) (w : World) (choice : List LogLists) (tries : List Attempt)
    (logs : List LogLists) : Type 0 where
  pub history : List Entry
  pub longest : IsLongestHistory g w history
  pub all : length logs ≡ roster g
  -- the votes on the log of a member that was there are those that were left on it
  pub votes : (m : ℕ) (was log : LogLists) → IsPresent g m → slice_get choice m ≡ Some was
      → slice_get logs m ≡ Some log → log.votes ≡ was.votes
  -- it begins with as much of the history as stood on it and some member knew to
  -- be durable
  pub begins : (m d k : ℕ) (was log : LogLists) → IsPresent g m → slice_get choice m ≡ Some was
      → slice_get logs m ≡ Some log → d ≤ length was.entries → IsPresent g k → d ≤ w.past.durable k
      → IsPrefixOf (take d history) log.entries
  pub grown : (m : ℕ) (log : LogLists) → slice_get logs m ≡ Some log → IsOfAgeOrEarlier g history tries log
  -- each log of the set of an opened try has its age vote
  pub voted : (try : Attempt) → IsOpenedTry tries try → HaveAgeVote logs try.set try.start
  -- the ages of opened tries rise, and are above the one that has ended
  pub rising : (i j : ℕ) (one other : Attempt) → i < j → slice_get tries i ≡ Some one → one.opened ≡ true
      → slice_get tries j ≡ Some other → other.opened ≡ true → one.start.age < other.start.age
  pub above : (try : Attempt) → IsOpenedTry tries try → g.opening.age < try.start.age
  -- where the View of an opened try stands on a log, the try's start stands before it
  pub started : (try : Attempt) (m : ℕ) (log : LogLists) (before behind : List Entry) → IsOpenedTry tries try
      → slice_get logs m ≡ Some log → log.entries ≡ before ++ first_view_of try.start ∷ behind
      → before ≡ try.start.entries
  -- each try had the logs of more than half of the roster, and its start keeps all that was durable
  pub part : (k : ℕ) (try : Attempt) → slice_get tries k ≡ Some try
      → IsPartOf try.set (whole_roster g.opening)
  pub majority : (k : ℕ) (try : Attempt) → slice_get tries k ≡ Some try
      → IsMajorityOf try.set (whole_roster g.opening)
  pub kept : (k : ℕ) (try : Attempt) → slice_get tries k ≡ Some try
      → KeepsDurable g w history (take k tries) try.start.entries

-- What a start keeps of an age that has ended: all that some member knew to be durable; and it is of an
-- age above that one and above those of all opened tries.
pub record IsKeptBy (g : Group) (w : World) (history : List Entry) (tries : List Attempt)
    (start : Start) : Type 0 where
  pub keeps : KeepsDurable g w history tries start.entries
  pub later : g.opening.age < start.age
  pub after : (try : Attempt) → IsOpenedTry tries try → try.start.age < start.age
