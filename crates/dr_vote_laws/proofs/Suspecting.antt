-- A member suspects another one: its promise rises, and its tag and its value stay.
use Rattle.std.proofs.Common.{Some, ap, arith, inl, inr, le_of_eq, refl, subst, sym, true, ℕ, ◌<◌, ◌∙◌, ◌≡◌, ◌⊎◌}
use Rattle.dr_entry.specs.declared.record.Value.{Value}
use Rattle.dr_machine.specs.{Effects.suspects, Group.{Group, IsGroup, roster}, Votes.vote_in, World.{World, own_word}}
use Rattle.dr_machine.proofs.{Worlds.{mask_after, promise_after, row_after}, Writes.{at₂_case, at₂_read}}
use Rattle.dr_faithful.{specs.{Faithful.Faithful, Tells.Views}, proofs.Faithfulness.OwnGrew}
use Rattle.dr_faithful.proofs.Suspicions.{MayName, promise_rises, suspect_grew}
use Rattle.dr_vote_laws.{specs.{Tells.{TellsVote, promise_in, tag_in}, Voting.Voting}, proofs.Frames.row_rewritten}
use Rattle.dr_vote_laws.proofs.Later.{original_on, votes_same}
use Rattle.dr_words.specs.{Columns.leavers_column, Packing.{accept_promise, accept_tag, accept_value}}
use Rattle.dr_words.{specs.Rewrites.is_accept_of, proofs.Accepts.leavers_accept}
use Rattle.dr_words.proofs.Rewrites.{wedged_promise, wedged_tag, wedged_value}

-- no tag changes
tags_stay : (g : Group) (w : World) (m j i v : ℕ) → tag_in g (suspects g w m j).past.own i v ≡ tag_in g w.past.own i v
tags_stay g w m j i v =
    let c : ℕ = leavers_column (roster g) in
    at₂_case (λ i v r. accept_tag (r c) ≡ accept_tag (w.past.own i v c)) w.past.own m
    (w.past.view m) (row_after g w m j) (λ i v. refl) (wedged_tag (roster g) (w.members m)
    (mask_after w m j) (promise_after w m j) c (own_word w m c) (leavers_accept (roster g) (w.members m))) i v

-- the own promise
promise_now : (g : Group) (w : World) (m j : ℕ)
    → promise_in g (suspects g w m j).past.own m (w.past.view m) ≡ promise_after w m j
promise_now g w m j =
    let c : ℕ = leavers_column (roster g) in
    ap (λ r. accept_promise (r c)) (at₂_read w.past.own m (w.past.view m) (row_after g w m j))
    ∙ wedged_promise (roster g) (w.members m) (mask_after w m j) (promise_after w m j) c (own_word w m c)
    (leavers_accept (roster g) (w.members m))

-- each accept word of the row tells
row_votes : (g : Group) (V : Views) (w : World) (m j c : ℕ) → IsGroup g → MayName g V w m j
    → Faithful g V w → Voting g V w → is_accept_of (roster g) (V (w.past.view m)) c ≡ true
    → TellsVote g (suspects g w m j).past.own w.past.votes m (w.past.view m) c (row_after g w m j c)
row_votes g V w m j c is can f old a = record {
  promised = le_of_eq (promise ∙ sym (promise_now g w m j));
  low = omega (arith, promise, tag, before.low, was, promise_rises g V w m j is can f);
  voted = λ b e. let x = before.voted b (sym tag ∙ e) in (x.0, x.1, value ∙ x.2);
  passed = λ b x h l. rw tag (passed b x (old.acted.below m (w.past.view m) b x h));
}
  where
    mine : is_accept_of (roster g) (w.members m) c ≡ true
    mine = rw (f.views.own m) a

    promise : accept_promise (row_after g w m j c) ≡ promise_after w m j
    promise = wedged_promise (roster g) (w.members m) (mask_after w m j) (promise_after w m j) c (own_word w m c) mine

    tag : accept_tag (row_after g w m j c) ≡ accept_tag (own_word w m c)
    tag = wedged_tag (roster g) (w.members m) (mask_after w m j) (promise_after w m j) c (own_word w m c) mine

    value : accept_value (row_after g w m j c) ≡ accept_value (own_word w m c)
    value = wedged_value (roster g) (w.members m) (mask_after w m j) (promise_after w m j) c (own_word w m c) mine

    before : TellsVote g w.past.own w.past.votes m (w.past.view m) c (own_word w m c)
    before = old.words.in_own m (w.past.view m) c a

    was : accept_promise (own_word w m c) ≡ w.promise m
    was = f.suspicions.accept m c a

    -- its tags are one
    same : tag_in g w.past.own m (w.past.view m) ≡ accept_tag (own_word w m c)
    same = f.accepts.tagged m (leavers_column (roster g)) (leavers_accept (roster g) (V (w.past.view m)))
        ∙ sym (f.accepts.tagged m c a)

    passed : (b : ℕ) (x : Value) → (b < tag_in g w.past.own m (w.past.view m))
        ⊎ (w.pending m ≡ Some (vote_in g (w.past.view m) b x)) → b < accept_tag (own_word w m c)
    passed b x (inl l) = omega (arith, l, same)
    passed b x (inr waits) = absurd (cc (can.may.idle, waits))

-- what is true of votes stays so
pub suspect_votes : (g : Group) (V : Views) (w : World) (m j : ℕ) → IsGroup g → MayName g V w m j
    → Faithful g V w → Voting g V w → Voting g V (suspects g w m j)
suspect_votes g V w m j is can f old = record {
  valid = old.valid;
  acted = record {
    below = λ i v b x h. subst (λ t. (b < t) ⊎ (w.pending i ≡ Some (vote_in g v b x)))
        (sym (tags_stay g w m j i v)) (old.acted.below i v b x h);
    accepted = old.acted.accepted;
    waiting = old.acted.waiting;
  };
  original = λ v b x h. original_on g V w.past.own (suspects g w m j).past.own w.past.votes w.past.votes
      v b x (f.views.within v) grew (votes_same g w.past.own w.past.votes) (old.original v b x h);
  words = row_rewritten g V w.past.view w.past.own m (w.past.view m) (row_after g w m j) w.table w.seen
      w.past.votes grew (λ c a. row_votes g V w m j c is can f old a) old.words;
  chosen = old.chosen;
}
  where
    grew : OwnGrew g w.past.own (suspects g w m j).past.own
    grew = (suspect_grew g V w m j is can f).own
