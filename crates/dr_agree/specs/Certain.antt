-- What is certain of the views of a world, and of its members that are done.
use Rattle.std.specs.Prelude.{◌≡◌, ◌⊎◌, ℕ, ◌+◌, ◌<◌, ◌≤◌, ◌++◌, length, true, Some}
use Rattle.dr_entry.specs.{declared.end.End.TheVariants.Done, declared.record.Value.Value}
use Rattle.dr_history.specs.{History.IsPrefixOf, Members.has, Order.{IsLateIn, first_entries, messages_from}}
use Rattle.dr_history_laws.specs.Remaining.{remaining}
use Rattle.dr_machine.specs.{Group.{Group, roster}, Guards.HoldsAll, World.World}
use Rattle.dr_vote_laws.specs.Voting.{HaveVotedFor}
use Rattle.dr_words.specs.Masks.{next_members}
use Rattle.dr_world_laws.specs.Views.{HasView, IsCovered}

-- the members agree on their views
pub record ViewsAgreed (g : Group) (w : World) : Type 0 where
  -- the View of a number has the same members in each history that holds it
  pub once : (v one other : ℕ) → HasView g w v one → HasView g w v other → one ≡ other
  -- the View of each view that somebody has come to stands in some history
  pub come : (m v : ℕ) → v ≤ w.past.view m → (members : ℕ) × HasView g w v members
  -- that of a member's own view has the members by which it goes
  pub present : (m : ℕ) → HasView g w (w.past.view m) (w.members m)
  -- the next view has the members that come of this one by a value that more than half of it has voted for
  pub ended : (v members next : ℕ) → HasView g w v members → HasView g w (v + 1) next
      → (b : ℕ) × (x : Value) × HaveVotedFor w.past.votes members v b x × (next ≡ next_members members x.leavers)
  -- and such a value covers what anybody has delivered in the view
  pub covered : (v members b : ℕ) (x : Value) → HasView g w v members
      → HaveVotedFor w.past.votes members v b x → IsCovered g w v members x

-- a member that has ended as done has everything
pub record DoneHoldAll (g : Group) (w : World) : Type 0 where
  -- it has delivered all messages of the members of its view, durably
  pub whole : (m : ℕ) → m < roster g → w.end m ≡ Some Done → HoldsAll g w m
  pub durable : (m : ℕ) → m < roster g → w.end m ≡ Some Done → w.past.durable m ≡ length (w.past.history m)
  -- nobody has a message that it lacks, but for those of late members that aren't in its view, which may come
  -- into a later one
  pub lacks_none : (m k s : ℕ) → (¬ IsLateIn g.opening s) ⊎ (has (w.members m) s ≡ true)
      → m < roster g → w.end m ≡ Some Done → k < roster g
      → IsPrefixOf (messages_from s (w.past.history k)) (messages_from s (w.past.history m))
  -- those that are done in one view have one history
  pub same : (m k : ℕ) → m < roster g → w.end m ≡ Some Done → k < roster g → w.end k ≡ Some Done
      → w.past.view m ≡ w.past.view k → w.past.history m ≡ w.past.history k

-- who holds all messages in the first view has the history that the script and the start determine
abbrev pub WholeAreOne : Group → World → Type 0
WholeAreOne g w = (m : ℕ) → m < roster g → w.past.view m ≡ 0 → HoldsAll g w m
    → w.past.history m ≡ first_entries g.opening ++ remaining g.opening
