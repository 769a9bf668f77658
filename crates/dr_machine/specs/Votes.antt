-- Votes on logs.
use Rattle.std.specs.Prelude.{◌≡◌, ℕ, List, slice_get, Some, true}
use Rattle.dr_entry.specs.declared.record.{Value.Value, Vote.Vote}
use Rattle.dr_history.specs.Members.{has}
use Rattle.dr_words.specs.Masks.{IsMajorityOf, IsPartOf}
use Rattle.dr_machine.specs.Group.{Group, roster}

-- the votes on the log of each member
abbrev pub Votes : Type 0
Votes = ℕ → List Vote

-- this vote stands on the log of member i
abbrev pub HasLogged : Votes → ℕ → Vote → Type 0
HasLogged votes i x = (k : ℕ) × (slice_get (votes i) k ≡ Some x)

-- the vote for a value by a ballot in a view
abbrev pub vote_in : Group → ℕ → ℕ → Value → Vote
vote_in g view ballot v = record {
  age = g.opening.age;
  view = view;
  ballot = ballot;
  members = roster g;
  value = v;
}

-- member i has voted for this value by this ballot in this view
abbrev pub HasVoted : Group → Votes → ℕ → ℕ → ℕ → Value → Type 0
HasVoted g votes i view ballot v = HasLogged votes i (vote_in g view ballot v)

-- the vote is one of this view, by this ballot
pub record IsOf (x : Vote) (view ballot : ℕ) : Type 0 where
  pub in_view : x.view ≡ view
  pub by_ballot : x.ballot ≡ ballot

-- more than half of these members each have a vote on their log that is such a one
pub record MajorityHas (votes : Votes) (members : ℕ) (IsSuch : Vote → Type 0) : Type 0 where
  pub mask : ℕ
  pub part : IsPartOf mask members
  pub majority : IsMajorityOf mask members
  pub each : (i : ℕ) → has mask i ≡ true → (x : Vote) × HasLogged votes i x × IsSuch x
