-- What lasts on logs on which nothing stands but what tries and ages of a script have left.
use Rattle.std.specs.Prelude.{◌≡◌, ℕ, ◌<◌, ◌⊎◌, true, List, [], ◌∷◌, ◌++◌, length, take, Some, slice_get}
use Rattle.dr_entry.specs.declared.entry.Entry.{Entry}
use Rattle.dr_history.specs.{History.IsPrefixOf, Soundness.whole_roster, declared.opening.Opening.Opening}
use Rattle.dr_machine.specs.{Group.{Group, IsGroup, IsPresent}, Run.IsReached, World.World}
use Rattle.dr_restart.specs.{Groups.{first_group_of, group_of}, Left.AreLeft, Trying.{HaveAgeVote, first_view_of}}
use Rattle.dr_restart.specs.declared.{lists.{Attempt.Attempt, LogLists.LogLists}, start.Start.Start}
use Rattle.dr_script.specs.declared.script.Script.{Script}
use Rattle.dr_words.specs.Masks.{IsMajorityOf, IsPartOf}
use Rattle.dr_quorum_laws.specs.Holding.{AreSoundTries, HaveNoLaterVotes, HoldSince, IsOpenedTry}

-- these logs may have come of empty ones by the tries, of whose ages none has ended
pub record HoldTriesAlone (o : Opening) (tries : List Attempt) (logs : List LogLists) : Type 0 where
  pub voteless : (m : ℕ) (log : LogLists) → slice_get logs m ≡ Some log → log.votes ≡ []
  -- each entry is the View of an opened try, and the try's start stands before it
  pub views : (m : ℕ) (log : LogLists) (before behind : List Entry) (e : Entry) → slice_get logs m ≡ Some log
      → log.entries ≡ before ++ e ∷ behind
      → (try : Attempt) × IsOpenedTry tries try × (e ≡ first_view_of try.start) × (before ≡ try.start.entries)
  -- each log of the set of an opened try has its age vote
  pub voted : (try : Attempt) → IsOpenedTry tries try → HaveAgeVote logs try.set try.start
  -- the ages of opened tries rise
  pub rising : (i j : ℕ) (one other : Attempt) → i < j → slice_get tries i ≡ Some one → one.opened ≡ true
      → slice_get tries j ≡ Some other → other.opened ≡ true → one.start.age < other.start.age
  -- each try had chosen a sound start, and had the logs of more than half of the roster
  pub sound : AreSoundTries o tries
  pub part : (k : ℕ) (try : Attempt) → slice_get tries k ≡ Some try → IsPartOf try.set (whole_roster o)
  pub majority : (k : ℕ) (try : Attempt) → slice_get tries k ≡ Some try → IsMajorityOf try.set (whole_roster o)

-- these logs hold since an age of the script that has ended in this world, with some tries
pub record HoldSinceAge (script : Script) (start : Start) (w : World) (logs : List LogLists) : Type 0 where
  pub group : IsGroup (group_of script start)
  pub reached : IsReached (group_of script start) w
  pub majority : IsMajorityOf start.present (whole_roster (group_of script start).opening)
  pub choice : List LogLists
  pub left : AreLeft (group_of script start) w choice
  pub tries : List Attempt
  pub sound : AreSoundTries (group_of script start).opening tries
  pub voteless : HaveNoLaterVotes start.age logs
  pub held : HoldSince (group_of script start) w choice tries logs

-- somebody knew these entries to be durable
abbrev pub AreDurableIn : Group → World → List Entry → Type 0
AreDurableIn g w es =
    (m : ℕ) × IsPresent g m × IsPrefixOf es (take (w.past.durable m) (w.past.history m))

-- Entries last on these logs, on which nothing stands but what tries and ages of the script have left: the logs
-- hold since an age in which somebody knew the entries to be durable; or none has ended yet, and there are none.
abbrev pub AreLasting : Script → List Entry → List LogLists → Type 0
AreLasting script es logs =
    ((start : Start) × (w : World) × HoldSinceAge script start w logs × AreDurableIn (group_of script start) w es)
    ⊎ ((tries : List Attempt) × HoldTriesAlone (first_group_of script).opening tries logs
    × (length logs ≡ script.members) × (es ≡ []))
