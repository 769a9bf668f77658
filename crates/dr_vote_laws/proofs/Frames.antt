-- Steps that write no accept words and log no votes leave what is true of votes.
use Rattle.std.proofs.Common.{Option, Some, ap, subst, sym, true, ℕ, ◌<◌, ◌≡◌, ◌⊎◌}
use Rattle.dr_entry.specs.declared.record.{Value.Value, Vote.Vote}
use Rattle.dr_history.specs.Members.{has}
use Rattle.dr_machine.specs.{Group.{Group, roster}, Votes.{Votes, vote_in}, World.Table, Writes.at₂}
use Rattle.dr_machine.proofs.{Groups.{IsBetween, leavers_between}, Writes.at₂_case}
use Rattle.dr_faithful.{specs.{Faithful.Numbers, Tells.Views}, proofs.Faithfulness.OwnGrew}
use Rattle.dr_vote_laws.specs.{Tells.{TellsVote, WordsTellVotes}, Voting.AreVoting}
use Rattle.dr_vote_laws.proofs.Later.{original_on, tells_on, votes_same}
use Rattle.dr_words.specs.{Columns.leavers_column, Packing.accept_tag, Rewrites.is_accept_of}
use Rattle.dr_words.proofs.Accepts.{accept_within}

-- where no accept word is written
pub same_accepts : (g : Group) (V : Views) (view tag : ℕ → ℕ) (value : ℕ → Value) (committed : ℕ → Option Value)
    (pending : ℕ → Option Vote) (own new : Numbers) (table copies : Table) (seen : Numbers) (votes : Votes)
    → ((v s : ℕ) → has (V v) s ≡ true → s < roster g)
    → OwnGrew g own new → ((i v c : ℕ) → IsBetween g c → new i v c ≡ own i v c)
    → ((v j i c : ℕ) → IsBetween g c → copies v j i c ≡ table v j i c)
    → AreVoting g V view tag value committed pending own table seen votes
    → AreVoting g V view tag value committed pending new copies seen votes
same_accepts g V view tag value committed pending own new table copies seen votes within grew same copied f = record {
  valid = f.valid;
  acted = record {
    below = λ i v b x h. subst (λ t. (b < t) ⊎ (pending i ≡ Some (vote_in g v b x))) (ap accept_tag
        (sym (same i v (leavers_column (roster g)) (leavers_between g)))) (f.acted.below i v b x h);
    accepted = f.acted.accepted;
    waiting = f.acted.waiting;
  };
  original = λ v b x h. original_on g V own new votes votes v b x (within v) grew
      (votes_same g own votes) (f.original v b x h);
  words = record {
    in_own = λ i v c a. subst (λ z. TellsVote g new votes i v c z)
        (sym (same i v c (accept_within (roster g) (V v) c a))) (on i v c (own i v c) (f.words.in_own i v c a));
    in_table = λ v j i c a. subst (λ z. TellsVote g new votes i v c z)
        (sym (copied v j i c (accept_within (roster g) (V v) c a)))
        (on i v c (table v j i c) (f.words.in_table v j i c a));
    in_seen = λ m i c a. on i (view m) c (seen m i c) (f.words.in_seen m i c a);
  };
  chosen = f.chosen;
}
  where
    on : (i v c word : ℕ) → TellsVote g own votes i v c word → TellsVote g new votes i v c word
    on i v c word = tells_on g own new votes votes i v c word grew (votes_same g own votes)

-- where the row of one member is rewritten, and its accept words tell of its votes what is so
pub row_rewritten : (g : Group) (V : Views) (view : ℕ → ℕ) (own : Numbers) (m u : ℕ) (row : ℕ → ℕ)
    (table : Table) (seen : Numbers) (votes : Votes) → OwnGrew g own (at₂ own m u row)
    → ((c : ℕ) → is_accept_of (roster g) (V u) c ≡ true → TellsVote g (at₂ own m u row) votes m u c (row c))
    → WordsTellVotes g V view own table seen votes → WordsTellVotes g V view (at₂ own m u row) table seen votes
row_rewritten g V view own m u row table seen votes grew here old = record {
  in_own = λ i v c a. at₂_case (λ i v r. is_accept_of (roster g) (V v) c ≡ true
      → TellsVote g (at₂ own m u row) votes i v c (r c)) own m u row
      (λ i v a. on i v c (own i v c) (old.in_own i v c a)) (here c) i v a;
  in_table = λ v k i c a. on i v c (table v k i c) (old.in_table v k i c a);
  in_seen = λ k i c a. on i (view k) c (seen k i c) (old.in_seen k i c a);
}
  where
    on : (i v c word : ℕ) → TellsVote g own votes i v c word → TellsVote g (at₂ own m u row) votes i v c word
    on i v c word = tells_on g own (at₂ own m u row) votes votes i v c word grew (votes_same g own votes)
