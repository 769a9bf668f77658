-- What is told of votes, and where proposals come from, stays true as promises rise and votes are logged.
use Rattle.std.proofs.Common.{ap, arith, inl, inr, le_trans, refl, true, ℕ, ◌<◌, ◌∙◌, ◌≡◌, ◌≤◌, ◌⊎◌}
use Rattle.dr_entry.specs.declared.record.{Value.Value, Vote.Vote}
use Rattle.dr_history.specs.Members.{has}
use Rattle.dr_machine.specs.{Group.{Group, roster}, Votes.{HasVoted, MajorityHas, Votes, vote_in, HasLogged}}
use Rattle.dr_faithful.{specs.{Faithful.Numbers, Tells.Views}, proofs.Faithfulness.{OwnGrew, least_on}}
use Rattle.dr_vote_laws.specs.{Tells.{TellsVote, promise_in}, Voting.{IsFirst, IsLater, IsOriginal}}
use Rattle.dr_words.specs.{Columns.{leavers_column, recv_column}, Packing.{accept_promise, accept_tag, is_final}}

-- no promise has fallen
pub promises_rise : (g : Group) (own new : Numbers) (i v : ℕ) → OwnGrew g own new
    → promise_in g own i v ≤ promise_in g new i v
promises_rise g own new i v grew = omega (arith, (grew i v (leavers_column (roster g))).number)

-- what was voted stays so, and no vote comes late: a new one has the ballot of a promise at least
pub record VotesGrew (g : Group) (own : Numbers) (old new : Votes) : Type 0 where
  pub stay : (i : ℕ) (x : Vote) → HasLogged old i x → HasLogged new i x
  pub late : (i v b : ℕ) (x : Value) → HasVoted g new i v b x → HasVoted g old i v b x ⊎ (promise_in g own i v ≤ b)

-- what a word tells of votes stays true
pub tells_on : (g : Group) (own new : Numbers) (votes more : Votes) (i v c word : ℕ) → OwnGrew g own new
    → VotesGrew g own votes more → TellsVote g own votes i v c word → TellsVote g new more i v c word
tells_on g own new votes more i v c word grew late t = record {
  promised = le_trans t.promised (promises_rise g own new i v grew);
  low = t.low;
  voted = λ b e. let x = t.voted b e in (x.0, late.stay i (vote_in g v b x.0) x.1, x.2);
  passed = λ b x h l. passed b x l (late.late i v b x h);
}
  where
    passed : (b : ℕ) (x : Value) → b < accept_promise word
        → HasVoted g votes i v b x ⊎ (promise_in g own i v ≤ b) → b < accept_tag word
    passed b x l (inl old) = t.passed b x old l
    passed b x l (inr high) = absurd (omega (arith, l, high, t.promised))

-- and so does the origin of a proposal
pub original_on : (g : Group) (V : Views) (own new : Numbers) (votes more : Votes) (v b : ℕ) (x : Value)
    → ((s : ℕ) → has (V v) s ≡ true → s < roster g) → OwnGrew g own new → VotesGrew g own votes more
    → IsOriginal g V own votes v b x → IsOriginal g V new more v b x
original_on g V own new votes more v b x within grew late t = record {
  mask = t.mask;
  part = t.part;
  majority = t.majority;
  promised = λ i h. le_trans (t.promised i h) (promises_rise g own new i v grew);
  final = λ i s h m. ap is_final ((grew i v (recv_column s)).final s (within s m) refl (t.final i s h m))
      ∙ t.final i s h m;
  source = source t.source;
}
  where
    none : (i c : ℕ) (y : Value) → has t.mask i ≡ true → HasVoted g more i v c y → HasVoted g votes i v c y ⊎ (b ≤ c)
    none i c y h voted = by (late.late i v c y voted)
      where
        by : HasVoted g votes i v c y ⊎ (promise_in g own i v ≤ c) → HasVoted g votes i v c y ⊎ (b ≤ c)
        by (inl old) = inl old
        by (inr high) = inr (le_trans (t.promised i h) high)

    source : IsFirst g V own votes v b t.mask x ⊎ IsLater g votes v b t.mask x
        → IsFirst g V new more v b t.mask x ⊎ IsLater g more v b t.mask x
    source (inl f) = inl record {
      none = λ i c y h voted. first i c y h (none i c y h voted);
      leavers = f.leavers;
      newcomers = f.newcomers;
      named = f.named;
      trims = λ s m. least_on g V own new v t.mask s _ grew (within s m) (λ i h. t.final i s h m) (f.trims s m);
    }
      where
        first : (i c : ℕ) (y : Value) → has t.mask i ≡ true → HasVoted g votes i v c y ⊎ (b ≤ c) → b ≤ c
        first i c y h (inl old) = f.none i c y h old
        first i c y h (inr high) = high
    source (inr f) = inr record {
      ballot = f.ballot;
      earlier = f.earlier;
      somebody = (f.somebody.0, f.somebody.1, late.stay f.somebody.0 (vote_in g v f.ballot x) f.somebody.2);
      none = λ i c y h voted. later i c y h (none i c y h voted);
    }
      where
        later : (i c : ℕ) (y : Value) → has t.mask i ≡ true → HasVoted g votes i v c y ⊎ (b ≤ c)
            → (c ≤ f.ballot) ⊎ (b ≤ c)
        later i c y h (inl old) = f.none i c y h old
        later i c y h (inr high) = inr high

-- a majority that has votes has them still
pub majority_on : (votes more : Votes) (members : ℕ) (g : Group) (own : Numbers) (IsSuch : Vote → Type 0)
    → VotesGrew g own votes more → MajorityHas votes members IsSuch → MajorityHas more members IsSuch
majority_on votes more members g own IsSuch grew t = record {
  mask = t.mask;
  part = t.part;
  majority = t.majority;
  each = λ i h. let x = t.each i h in (x.0, grew.stay i x.0 x.1, x.2);
}

-- nothing was voted
pub votes_same : (g : Group) (own : Numbers) (votes : Votes) → VotesGrew g own votes votes
votes_same g own votes = record { stay = λ i x t. t; late = λ i v b x t. inl t }
