-- What is true of the votes of every world that is reached.
-- V gives the members of each view, as a mask, by the view's number.
use Rattle.std.specs.Prelude.{◌≡◌, ℕ, ◌+◌, ◌<◌, ◌≤◌, ◌⊎◌, true, false, not, length, slice_index, Option, Some}
use Rattle.dr_entry.specs.{declared.limits.TheConstants.MAX_MEMBERS, declared.record.{Value.Value, Vote.Vote}}
use Rattle.dr_history.specs.{Members.has, Order.IsNewIn, declared.opening.Opening.Opening}
use Rattle.dr_words.specs.{Changes.IsLeastReceived, Columns.recv_column, Masks.{IsMajorityOf, IsPartOf}}
use Rattle.dr_words.specs.Packing.{is_final}
use Rattle.dr_machine.specs.{Group.Group, Votes.{HasLogged, HasVoted, IsOf, MajorityHas, Votes, vote_in}}
use Rattle.dr_machine.specs.World.{Table, World}
use Rattle.dr_faithful.specs.{Faithful.Numbers, Tells.Views}
use Rattle.dr_vote_laws.specs.Tells.{WordsTellVotes, promise_in, tag_in}

-- a value of a view of these members: a trim for each member that a roster can have, and 0 for those that
-- are not of the view
pub record IsValueOf (members : ℕ) (v : Value) : Type 0 where
  pub whole : length v.trim ≡ MAX_MEMBERS
  pub others : (s : ℕ) → has members s ≡ false → slice_index v.trim s ≡ 0

-- votes are of the group and its age, of one value by one ballot, and follow the member whose number is the
-- ballot
pub record AreVotes (g : Group) (V : Views) (votes : Votes) : Type 0 where
  pub own : (i : ℕ) (x : Vote) → HasLogged votes i x → x ≡ vote_in g x.view x.ballot x.value
  pub one : (i v b : ℕ) (x y : Value) → HasVoted g votes i v b x → HasVoted g votes i v b y → x ≡ y
  pub value : (i v b : ℕ) (x : Value) → HasVoted g votes i v b x → IsValueOf (V v) x
  pub led : (i v b : ℕ) (x : Value) → HasVoted g votes i v b x → HasVoted g votes b v b x

-- the tag and the value of a member are those of a vote of it, and each of its votes has a ballot below the
-- tag, but for one that waits
pub record AreActed (g : Group) (view tag : ℕ → ℕ) (value : ℕ → Value) (pending : ℕ → Option Vote)
    (own : Numbers) (votes : Votes) : Type 0 where
  pub below : (i v b : ℕ) (x : Value) → HasVoted g votes i v b x
      → (b < tag_in g own i v) ⊎ (pending i ≡ Some (vote_in g v b x))
  pub accepted : (m b : ℕ) → tag m ≡ b + 1 → HasVoted g votes m (view m) b (value m)
  pub waiting : (m : ℕ) (x : Vote) → pending m ≡ Some x → HasLogged votes m x × (x.view ≡ view m)

-- nobody of the mask has a vote of the view by a ballot below this one, and the value is the first one: the
-- others of the view leave, late members that are in no view so far come, one of these at least is named, and
-- of each member as much is delivered as all of the mask have received
pub record IsFirst (g : Group) (V : Views) (own : Numbers) (votes : Votes) (v b mask : ℕ)
    (x : Value) : Type 0 where
  pub none : (i c : ℕ) (y : Value) → has mask i ≡ true → HasVoted g votes i v c y → b ≤ c
  pub leavers : (i : ℕ) → has (V v) i ≡ true → has x.leavers i ≡ not (has mask i)
  pub newcomers : (i : ℕ) → has x.leavers i ≡ true → (has (V v) i ≡ true) ⊎ IsNewIn g.opening V v i
  pub named : (i : ℕ) × (has x.leavers i ≡ true)
  pub trims : (s : ℕ) → has (V v) s ≡ true
      → IsLeastReceived (λ i c. own i v c) mask s (slice_index x.trim s)

-- the value is that of an earlier ballot, by which somebody of the mask has voted, and nobody of it by one
-- between
pub record IsLater (g : Group) (votes : Votes) (v b mask : ℕ) (x : Value) : Type 0 where
  pub ballot : ℕ
  pub earlier : ballot < b
  pub somebody : (i : ℕ) × (has mask i ≡ true) × HasVoted g votes i v ballot x
  pub none : (i c : ℕ) (y : Value) → has mask i ≡ true → HasVoted g votes i v c y
      → (c ≤ ballot) ⊎ (b ≤ c)

-- where a proposal comes from: more than half of the view have promised the ballot or a greater one, their
-- counts are final, and the value is their first one, or that of an earlier ballot
pub record IsOriginal (g : Group) (V : Views) (own : Numbers) (votes : Votes) (v b : ℕ)
    (x : Value) : Type 0 where
  pub mask : ℕ
  pub part : IsPartOf mask (V v)
  pub majority : IsMajorityOf mask (V v)
  pub promised : (i : ℕ) → has mask i ≡ true → b ≤ promise_in g own i v
  pub final : (i s : ℕ) → has mask i ≡ true → has (V v) s ≡ true
      → is_final (own i v (recv_column s)) ≡ true
  pub source : IsFirst g V own votes v b mask x ⊎ IsLater g votes v b mask x

-- each proposal comes from there
abbrev pub AreOriginal : Group → Views → Numbers → Votes → Type 0
AreOriginal g V own votes =
    (v b : ℕ) (x : Value) → HasVoted g votes b v b x → IsOriginal g V own votes v b x

-- a committed value has votes of more than half of the view by one ballot
abbrev pub AreCommitted : Group → Views → (ℕ → ℕ) → (ℕ → Option Value) → Votes → Type 0
AreCommitted g V view committed votes =
    (m : ℕ) (x : Value) → committed m ≡ Some x
    → (b : ℕ) × MajorityHas votes (V (view m)) (λ z. z ≡ vote_in g (view m) b x)

-- the votes of a group, over what they speak of
pub record AreVoting (g : Group) (V : Views) (view tag : ℕ → ℕ) (value : ℕ → Value)
    (committed : ℕ → Option Value) (pending : ℕ → Option Vote) (own : Numbers) (table : Table)
    (seen : Numbers) (votes : Votes) : Type 0 where
  pub valid : AreVotes g V votes
  pub acted : AreActed g view tag value pending own votes
  pub original : AreOriginal g V own votes
  pub words : WordsTellVotes g V view own table seen votes
  pub chosen : AreCommitted g V view committed votes

-- so it is in a world
abbrev pub Voting : Group → Views → World → Type 0
Voting g V w = AreVoting g V w.past.view w.tag w.value w.committed w.pending w.past.own w.table w.seen
    w.past.votes

-- more than half of these members of a view have voted for a value by one ballot
abbrev pub HaveVotedFor : Votes → ℕ → ℕ → ℕ → Value → Type 0
HaveVotedFor votes members v b x = MajorityHas votes members (λ z. IsOf z v b × (z.value ≡ x))

-- more than half of a view has voted for a value by a ballot
abbrev pub IsChosen : Views → Votes → ℕ → ℕ → Value → Type 0
IsChosen V votes v b x = HaveVotedFor votes (V v) v b x

-- the value lets the others than the members of a mask leave the view, and late members come that are in no
-- view so far, and it names somebody: the mask has more than half of the view, the counts of its members are
-- final, and the value's trims are the least of these counts
pub record IsCut (o : Opening) (V : Views) (own : Numbers) (v : ℕ) (x : Value) : Type 0 where
  pub mask : ℕ
  pub part : IsPartOf mask (V v)
  pub majority : IsMajorityOf mask (V v)
  pub final : (i s : ℕ) → has mask i ≡ true → has (V v) s ≡ true
      → is_final (own i v (recv_column s)) ≡ true
  pub leavers : (i : ℕ) → has (V v) i ≡ true → has x.leavers i ≡ not (has mask i)
  pub newcomers : (i : ℕ) → has x.leavers i ≡ true → (has (V v) i ≡ true) ⊎ IsNewIn o V v i
  pub named : (i : ℕ) × (has x.leavers i ≡ true)
  pub trims : (s : ℕ) → has (V v) s ≡ true
      → IsLeastReceived (λ i c. own i v c) mask s (slice_index x.trim s)
