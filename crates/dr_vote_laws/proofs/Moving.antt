-- A member goes on in a later view: what is true of votes stays so.
use Rattle.std.proofs.Common.{List, None, Option, Some, arith, inl, inr, length, refl, subst, sym, true, ℕ, ◌+◌, ◌<◌, ◌∙◌, ◌≡◌, ◌≢◌, ◌⊎◌}
use Rattle.std.proofs.lemmas.Bool.{cases_eq}
use Rattle.dr_entry.specs.{declared.entry.Entry.Entry, declared.record.{Value.Value, Vote.Vote}}
use Rattle.dr_machine.specs.{Effects.enters, Group.{Group, roster}}
use Rattle.dr_machine.specs.{Votes.{HasLogged, HasVoted, MajorityHas, Votes, vote_in}, World.{Table, World, no_value}}
use Rattle.dr_machine.{specs.Writes.at, proofs.Writes.{at_other, at_same, at₃_column}}
use Rattle.dr_faithful.{specs.{Faithful.{Faithful, Numbers}, Tells.Views}, proofs.Finishes.enter_grew}
use Rattle.dr_vote_laws.{specs.{Tells.TellsVote, Voting.{AreVoting, Voting}}, proofs.Frames.same_accepts}
use Rattle.dr_vote_laws.proofs.Opening.{tells_nothing}
use Rattle.dr_words.specs.{Rewrites.is_accept_of, declared.column.TheConstants.LOGGED_COLUMN}

-- a member that has moved to another view has no tag, has committed nothing, and has seen nothing in it. That
-- its own words of the view are as they were is for the frame
pub moved_votes : (g : Group) (V : Views) (view tag : ℕ → ℕ) (value : ℕ → Value) (committed : ℕ → Option Value)
    (pending : ℕ → Option Vote) (own : Numbers) (table : Table) (seen : Numbers) (votes : Votes)
    (m next : ℕ) (x : Value) → pending m ≡ None → AreVoting g V view tag value committed pending own table seen votes
    → AreVoting g V (at view m next) (at tag m 0) (at value m x) (at committed m None) pending own table
    (at seen m (λ i c. 0)) votes
moved_votes g V view tag value committed pending own table seen votes m next x idle old = record {
  valid = old.valid;
  acted = record {
    below = old.acted.below;
    accepted = λ i b. by_member i (λ k. (b : ℕ) → at tag m 0 k ≡ b + 1 → HasVoted g votes k
        (at view m next k) b (at value m x k)) (λ b e. absurd (omega (arith, e, at_same tag m 0)))
        (λ d b e. rw (at_other view m next i d, at_other value m x i d)
        (old.acted.accepted i b (sym (at_other tag m 0 i d) ∙ e))) b;
    waiting = λ i y e. by_member i (λ k. pending k ≡ Some y → HasLogged votes k y × (y.view ≡ at view m next k))
        (λ e. absurd (cc (idle, e))) (λ d e. rw (at_other view m next i d) (old.acted.waiting i y e)) e;
  };
  original = old.original;
  words = record {
    in_own = old.words.in_own;
    in_table = old.words.in_table;
    in_seen = λ k i c. by_member k (λ k. is_accept_of (roster g) (V (at view m next k)) c ≡ true
        → TellsVote g own votes i (at view m next k) c (at seen m (λ i c. 0) k i c))
        (λ a. rw (at_same seen m (λ i c. 0)) (tells_nothing g own votes i _ c))
        (λ d a. rw (at_other view m next k d, at_other seen m (λ i c. 0) k d)
        (old.words.in_seen k i c (rw (← at_other view m next k d) a)));
  };
  chosen = λ i y e. by_member i (λ k. at committed m None k ≡ Some y → (b : ℕ)
      × MajorityHas votes (V (at view m next k)) (λ z. z ≡ vote_in g (at view m next k) b y))
      (λ e. absurd (cc (at_same committed m None, e)))
      (λ d e. rw (at_other view m next i d) (old.chosen i y (sym (at_other committed m None i d) ∙ e))) e;
}
  where
    by_member : (i : ℕ) (P : ℕ → Type 0) → P m → (i ≢ m → P i) → P i
    by_member i P mine other = by (cases_eq i m)
      where
        by : (i ≡ m) ⊎ (i ≢ m) → P i
        by (inl e) = subst P (sym e) mine
        by (inr d) = other d

-- so it is where a member goes on in a later view
pub enter_votes : (g : Group) (V : Views) (w : World) (m to members : ℕ) (history : List Entry) → w.pending m ≡ None
    → w.past.view m < to → Faithful g V w → Voting g V w → Voting g V (enters w m to members history)
enter_votes g V w m to members history idle later f old = same_accepts g V
    (at w.past.view m to) (at w.tag m 0) (at w.value m no_value) (at w.committed m None) w.pending w.past.own
    (enters w m to members history).past.own w.table w.table (at w.seen m (λ i c. 0)) w.past.votes
    (λ v s h. f.views.within v s h) (enter_grew g V w m to members history later f).own
    (λ i v c b. at₃_column w.past.own m to LOGGED_COLUMN (length (w.past.log m)) i v c (omega (arith, b.0)))
    (λ v j i c b. refl) (moved_votes g V w.past.view w.tag w.value w.committed w.pending w.past.own w.table w.seen
    w.past.votes m to no_value idle old)
