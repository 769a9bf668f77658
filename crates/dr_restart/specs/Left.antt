-- What stops leave on the logs of all members of the roster, those of an age that has ended and those that
-- were not there.
use Rattle.std.specs.Option.{option_map_or}
use Rattle.std.specs.Prelude.{◌≡◌, ℕ, ◌==◌, ◌<◌, ◌≤◌, ◌⊎◌, List, [], ◌∷◌, ◌++◌, filter, map, length, Contains, None, Some, slice_get}
use Rattle.dr_entry.specs.{declared.entry.Entry.{Entry, TheVariants.View}, declared.record.{Value.Value, Vote.Vote}}
use Rattle.dr_history.specs.{History.IsPrefixOf, Restarting.AllStand}
use Rattle.dr_machine.specs.{Effects.vote_for, Group.{Group, IsPresent, roster}, Guards.CanLogVote, Votes.Votes}
use Rattle.dr_machine.specs.World.{World}
use Rattle.dr_restart.specs.declared.lists.LogLists.{LogLists}

-- the entries on each log
abbrev pub entries_on_logs : List LogLists → List (List Entry)
entries_on_logs logs = map (λ log. log.entries) logs

-- a world, but nobody has ended
abbrev pub without_ends : World → World
without_ends w = record w { end = λ m. None }

-- a member may have begun to log this vote before it ended
abbrev pub MayLogVote : Group → World → ℕ → Vote → Type 0
MayLogVote g w m x = (v : Value) × CanLogVote g (without_ends w) m v × (x ≡ vote_for g w m v)

-- the entries and the votes of an age that stops may leave on the log of a member: those that stand there, or
-- besides what an append that had begun was to bring. It is the next entry of its history, or all that were left of
-- it, or the vote that it may log
abbrev pub AreLeftOf : Group → World → ℕ → List Entry → List Vote → Type 0
AreLeftOf g w m entries votes =
    ((entries ≡ w.past.log m) × (votes ≡ w.past.votes m))
    ⊎ ((e : Entry) × (entries ≡ w.past.log m ++ e ∷ []) × IsPrefixOf entries (w.past.history m)
    × (votes ≡ w.past.votes m))
    ⊎ ((entries ≡ w.past.history m) × (votes ≡ w.past.votes m))
    ⊎ ((x : Vote) × (entries ≡ w.past.log m) × (votes ≡ w.past.votes m ++ x ∷ []) × MayLogVote g w m x)

-- the votes of an age
abbrev pub votes_of_age : ℕ → List Vote → List Vote
votes_of_age age votes = filter (λ x. x.age == age) votes

-- those that stand on each log
abbrev pub votes_on_logs : Group → List LogLists → Votes
votes_on_logs g logs m = option_map_or (λ log. votes_of_age g.opening.age log.votes) (slice_get logs m) []

-- the log of a member that is there may be this one: it may have votes of earlier ages too, and any age votes
pub record IsLeftByMember (g : Group) (w : World) (m : ℕ) (log : LogLists) : Type 0 where
  pub left : AreLeftOf g w m log.entries (votes_of_age g.opening.age log.votes)
  pub votes : (x : Vote) → Contains log.votes x → x.age ≤ g.opening.age

-- the Views and the votes on a log are of earlier ages
pub record IsOfEarlierAges (age : ℕ) (log : LogLists) : Type 0 where
  pub views : (a number members : ℕ) → Contains log.entries (View a number members) → a < age
  pub votes : (x : Vote) → Contains log.votes x → x.age < age

-- the log of a member that isn't there may be any such one that the script can have brought about
pub record IsLeftByOther (g : Group) (log : LogLists) : Type 0 where
  pub stands : AllStand g.opening log.entries
  pub earlier : IsOfEarlierAges g.opening.age log

-- logs that may be left of those of all members of the roster, by number
pub record AreLeft (g : Group) (w : World) (logs : List LogLists) : Type 0 where
  pub all : length logs ≡ roster g
  pub members : (m : ℕ) (log : LogLists) → IsPresent g m → slice_get logs m ≡ Some log
      → IsLeftByMember g w m log
  pub others : (m : ℕ) (log : LogLists) → ¬ IsPresent g m → slice_get logs m ≡ Some log → IsLeftByOther g log
