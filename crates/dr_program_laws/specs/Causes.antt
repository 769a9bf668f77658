-- Why members end, in the world that their program is.
use Rattle.std.specs.Prelude.{◌≡◌, ⊤, ℕ, ◌+◌, true, length, Some}
use Rattle.dr_entry.specs.declared.end.End.{End, TheVariants.{Done, Excluded, NoMajority, Suspected}}
use Rattle.dr_entry.specs.declared.record.Value.{Value}
use Rattle.dr_history.specs.Members.{has}
use Rattle.dr_machine.specs.{Group.Group, Guards.HoldsAll, World.World}
use Rattle.dr_vote_laws.specs.Voting.{HaveVotedFor}
use Rattle.dr_world_laws.specs.Ends.{IsLeftWith, IsSuspectedBack}

-- the value that m has committed in its view, for which more than half of the view have voted by one ballot,
-- names it as one that leaves, and the next view has this number
pub record IsVotedOut (w : World) (m view : ℕ) : Type 0 where
  pub value : Value
  pub committed : w.committed m ≡ Some value
  pub ballot : ℕ
  pub voted : HaveVotedFor w.past.votes (w.members m) (w.past.view m) ballot value
  pub named : has value.leavers m ≡ true
  pub next : view ≡ w.past.view m + 1

-- why member m ended so, where neither a crash, nor its log, nor its turns ended it
abbrev pub HasCause : Group → World → ℕ → End → Type 0
HasCause g w m Done = HoldsAll g w m × (w.past.durable m ≡ length (w.past.history m))
HasCause g w m (Suspected by) = IsSuspectedBack w m by
HasCause g w m (NoMajority mask) = IsLeftWith w m mask
HasCause g w m (Excluded view) = IsVotedOut w m view
HasCause g w m end = ⊤
