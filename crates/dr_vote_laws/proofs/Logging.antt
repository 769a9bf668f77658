-- A member logs a vote.
use Rattle.std.proofs.Common.{Some, ap, false, inl, inr, le_of_eq, refl, slice_index, subst, sym, ℕ, ◌<◌, ◌∙◌, ◌≡◌, ◌≢◌, ◌≤◌, ◌⊎◌}
use Rattle.std.proofs.lemmas.Bool.{cases_eq}
use Rattle.dr_entry.specs.declared.record.{Value.Value, Vote.Vote}
use Rattle.dr_history.specs.Members.{has}
use Rattle.dr_machine.specs.{Effects.{logs_vote, vote_for}, Group.{Group, IsGroup, roster}, World.{World, shown}}
use Rattle.dr_machine.specs.{Guards.{CanLogVote, IsToAccept, IsToPropose}, Votes.{HasLogged, HasVoted, vote_in}}
use Rattle.dr_machine.proofs.{Voting.{logged_before, logged_new, logged_stays}, Writes.{at_case, at_other, at_same}}
use Rattle.dr_faithful.{specs.{Faithful.Faithful, Tells.Views}, proofs.{Faithfulness.own_stays, Votes.own_promise}}
use Rattle.dr_vote_laws.{specs.Tells.{TellsVote, promise_in, tag_in}, proofs.Rows.{no_vote_yet, shows_voted}}
use Rattle.dr_vote_laws.specs.Voting.{AreVotes, IsOriginal, IsValueOf, Voting}
use Rattle.dr_vote_laws.proofs.{Later.{majority_on, original_on, tells_on, VotesGrew}, Proposals.proposed}
use Rattle.dr_words.{specs.Columns.leavers_column, proofs.Accepts.{leavers_accept, all_tagged}}

-- no vote comes late: the new one is by the ballot of the promise
pub votes_grew : (g : Group) (V : Views) (w : World) (m : ℕ) (v : Value) → Faithful g V w
    → VotesGrew g w.past.own w.past.votes (logs_vote g w m v).past.votes
votes_grew g V w m v f = record {
  stay = logged_stays w.past.votes m (vote_for g w m v);
  late = λ i u b x h. late i u b x (logged_before w.past.votes m (vote_for g w m v) i (vote_in g u b x) h);
}
  where
    promise : promise_in g w.past.own m (w.past.view m) ≡ w.promise m
    promise = f.suspicions.accept m (leavers_column (roster g)) (leavers_accept (roster g) (V (w.past.view m)))

    late : (i u b : ℕ) (x : Value) → HasLogged w.past.votes i (vote_in g u b x) ⊎ ((i ≡ m)
        × (vote_in g u b x ≡ vote_for g w m v)) → HasVoted g w.past.votes i u b x ⊎ (promise_in g w.past.own i u ≤ b)
    late i u b x (inl old) = inl old
    late i u b x (inr t) =
        let view : u ≡ w.past.view m = ap (λ z. z.view) t.1 in
        let ballot : b ≡ w.promise m = ap (λ z. z.ballot) t.1 in inr (rw (t.0, view, ballot) (le_of_eq promise))

-- ---- the votes

-- the value is one of the view
value_is : (g : Group) (V : Views) (w : World) (m : ℕ) (v : Value) → CanLogVote g w m v → Faithful g V w
    → IsValueOf (V (w.past.view m)) v
value_is g V w m v can f = record {
  whole = can.whole;
  others = λ s h. others s (ap (λ z. has z s) (f.views.own m) ∙ h) can.allowed;
}
  where
    others : (s : ℕ) → has (w.members m) s ≡ false → IsToPropose g w m v ⊎ IsToAccept g w m v
        → slice_index v.trim s ≡ 0
    others s h (inl (may, inl t)) = t.2.others s h
    others s h (inl (may, inr t)) = t.1.others s h
    others s h (inr t) = t.1.others s h

-- and who leads the ballot has voted for it
led_by : (g : Group) (V : Views) (w : World) (m : ℕ) (v : Value) → CanLogVote g w m v → Faithful g V w → Voting g V w
    → HasVoted g (logs_vote g w m v).past.votes (w.promise m) (w.past.view m) (w.promise m) v
led_by g V w m v can f old = by can.allowed
  where
    by : IsToPropose g w m v ⊎ IsToAccept g w m v
        → HasVoted g (logs_vote g w m v).past.votes (w.promise m) (w.past.view m) (w.promise m) v
    by (inl t) =
        let mine : w.promise m ≡ m = sym (own_promise g V w m f) ∙ t.0.promised in
        subst (λ k. HasLogged (logs_vote g w m v).past.votes k (vote_for g w m v)) (sym mine)
        (logged_new w.past.votes m (vote_for g w m v))
    by (inr t) =
        let promise = own_promise g V w m f in
        logged_stays w.past.votes m (vote_for g w m v) (w.promise m) (vote_for g w m v)
        (subst (λ p. HasVoted g w.past.votes p (w.past.view m) p v) promise (shows_voted g V w m _ _ v f old can.whole
        (all_tagged (roster g) (shown w m) (w.members m) _ _ t.0.whole) t.1))

votes_valid : (g : Group) (V : Views) (w : World) (m : ℕ) (v : Value) → CanLogVote g w m v
    → Faithful g V w → Voting g V w → AreVotes g V (logs_vote g w m v).past.votes
votes_valid g V w m v can f old = record {
  own = λ i x h. own i x (before i x h);
  one = λ i u b x y h k. one i u b x y (before i (vote_in g u b x) h) (before i (vote_in g u b y) k);
  value = λ i u b x h. value i u b x (before i (vote_in g u b x) h);
  led = λ i u b x h. led i u b x (before i (vote_in g u b x) h);
}
  where
    before : (i : ℕ) (x : Vote) → HasLogged (logs_vote g w m v).past.votes i x
        → HasLogged w.past.votes i x ⊎ ((i ≡ m) × (x ≡ vote_for g w m v))
    before = logged_before w.past.votes m (vote_for g w m v)

    own : (i : ℕ) (x : Vote) → HasLogged w.past.votes i x ⊎ ((i ≡ m) × (x ≡ vote_for g w m v))
        → x ≡ vote_in g x.view x.ballot x.value
    own i x (inl h) = old.valid.own i x h
    own i x (inr t) = subst (λ y. y ≡ vote_in g y.view y.ballot y.value) (sym t.1) refl

    -- a vote that was there is not by the ballot of the new one
    apart : (i u b : ℕ) (x y : Value) → HasLogged w.past.votes i (vote_in g u b x) → i ≡ m
        → vote_in g u b y ≡ vote_for g w m v → ⊥
    apart i u b x y h e t =
        let view : u ≡ w.past.view m = ap (λ z. z.view) t in
        let ballot : b ≡ w.promise m = ap (λ z. z.ballot) t in
        no_vote_yet g V w m v can f old x (subst (λ p. HasVoted g w.past.votes m (w.past.view m) p x) ballot
        (subst (λ z. HasVoted g w.past.votes m z b x) view (subst (λ k. HasVoted g w.past.votes k u b x) e h)))

    one : (i u b : ℕ) (x y : Value)
        → HasLogged w.past.votes i (vote_in g u b x) ⊎ ((i ≡ m) × (vote_in g u b x ≡ vote_for g w m v))
        → HasLogged w.past.votes i (vote_in g u b y) ⊎ ((i ≡ m) × (vote_in g u b y ≡ vote_for g w m v)) → x ≡ y
    one i u b x y (inl h) (inl k) = old.valid.one i u b x y h k
    one i u b x y (inl h) (inr t) = absurd (apart i u b x y h t.0 t.1)
    one i u b x y (inr t) (inl k) = absurd (apart i u b y x k t.0 t.1)
    one i u b x y (inr t) (inr s) = ap (λ z. z.value) t.1 ∙ sym (ap (λ z. z.value) s.1)

    value : (i u b : ℕ) (x : Value) → HasLogged w.past.votes i (vote_in g u b x)
        ⊎ ((i ≡ m) × (vote_in g u b x ≡ vote_for g w m v)) → IsValueOf (V u) x
    value i u b x (inl h) = old.valid.value i u b x h
    value i u b x (inr t) =
        let view : u ≡ w.past.view m = ap (λ z. z.view) t.1 in
        let same : x ≡ v = ap (λ z. z.value) t.1 in rw (view, same) (value_is g V w m v can f)

    led : (i u b : ℕ) (x : Value) → HasLogged w.past.votes i (vote_in g u b x)
        ⊎ ((i ≡ m) × (vote_in g u b x ≡ vote_for g w m v)) → HasVoted g (logs_vote g w m v).past.votes b u b x
    led i u b x (inl h) = logged_stays w.past.votes m (vote_for g w m v) b (vote_in g u b x) (old.valid.led i u b x h)
    led i u b x (inr t) =
        let ballot : b ≡ w.promise m = ap (λ z. z.ballot) t.1 in rw (t.1, ballot) (led_by g V w m v can f old)

-- ---- all that is true of votes

pub vote_votes : (g : Group) (V : Views) (w : World) (m : ℕ) (v : Value) → IsGroup g
    → CanLogVote g w m v → Faithful g V w → Voting g V w → Voting g V (logs_vote g w m v)
vote_votes g V w m v is can f old = record {
  valid = votes_valid g V w m v can f old;
  acted = record {
    below = λ i u b x h. below i u b x
        (logged_before w.past.votes m (vote_for g w m v) i (vote_in g u b x) h) (cases_eq i m);
    accepted = λ i b t. grew.stay i (vote_in g (w.past.view i) b (w.value i)) (old.acted.accepted i b t);
    waiting = at_case (λ i o. (y : Vote) → o ≡ Some y
        → HasLogged (logs_vote g w m v).past.votes i y × (y.view ≡ w.past.view i)) w.pending m
        (Some (vote_for g w m v)) (λ i d y p. let t = old.acted.waiting i y p in (grew.stay i y t.0, t.1)) waits;
  };
  original = λ u b x h. original u b x (logged_before w.past.votes m (vote_for g w m v) b (vote_in g u b x) h);
  words = record {
    in_own = λ i u c a. on i u c (w.past.own i u c) (old.words.in_own i u c a);
    in_table = λ u k i c a. on i u c (w.table u k i c) (old.words.in_table u k i c a);
    in_seen = λ k i c a. on i (w.past.view k) c (w.seen k i c) (old.words.in_seen k i c a);
  };
  chosen = λ i x e. let t = old.chosen i x e in (
    t.0,
    majority_on w.past.votes (logs_vote g w m v).past.votes (V (w.past.view i)) g w.past.own
        (λ z. z ≡ vote_in g (w.past.view i) t.0 x) grew t.1,
  );
}
  where
    grew : VotesGrew g w.past.own w.past.votes (logs_vote g w m v).past.votes
    grew = votes_grew g V w m v f

    on : (i u c word : ℕ) → TellsVote g w.past.own w.past.votes i u c word
        → TellsVote g w.past.own (logs_vote g w m v).past.votes i u c word
    on i u c word = tells_on g w.past.own w.past.own w.past.votes (logs_vote g w m v).past.votes i u c word
        (own_stays g w) grew

    pending : (logs_vote g w m v).pending m ≡ Some (vote_for g w m v)
    pending = at_same w.pending m (Some (vote_for g w m v))

    waits : (y : Vote) → Some (vote_for g w m v) ≡ Some y
        → HasLogged (logs_vote g w m v).past.votes m y × (y.view ≡ w.past.view m)
    waits y p =
        let same : vote_for g w m v ≡ y = cc p in
        subst (λ z. HasLogged (logs_vote g w m v).past.votes m z × (z.view ≡ w.past.view m)) same
        (logged_new w.past.votes m (vote_for g w m v), refl)

    mine : (u b : ℕ) (x : Value)
        → (b < tag_in g w.past.own m u) ⊎ (w.pending m ≡ Some (vote_in g u b x)) → b < tag_in g w.past.own m u
    mine u b x (inl l) = l
    mine u b x (inr p) = absurd (cc (can.may.idle, p))

    below : (i u b : ℕ) (x : Value)
        → HasLogged w.past.votes i (vote_in g u b x) ⊎ ((i ≡ m) × (vote_in g u b x ≡ vote_for g w m v))
        → (i ≡ m) ⊎ (i ≢ m) → (b < tag_in g w.past.own i u) ⊎ ((logs_vote g w m v).pending i ≡ Some (vote_in g u b x))
    below i u b x (inr t) e = inr (ap (logs_vote g w m v).pending t.0 ∙ pending ∙ ap (λ z. Some z) (sym t.1))
    below i u b x (inl h) (inl e) =
        inl (rw e (mine u b x (old.acted.below m u b x (subst (λ k. HasVoted g w.past.votes k u b x) e h))))
    below i u b x (inl h) (inr d) = subst (λ o. (b < tag_in g w.past.own i u) ⊎ (o ≡ Some (vote_in g u b x)))
        (sym (at_other w.pending m (Some (vote_for g w m v)) i d)) (old.acted.below i u b x h)

    -- a new proposal, as an accepted one is by another's ballot
    new : (x : Value) → m ≡ w.promise m → x ≡ v → IsToPropose g w m v ⊎ IsToAccept g w m v
        → IsOriginal g V w.past.own (logs_vote g w m v).past.votes (w.past.view m) m x
    new x e same (inl t) = rw same (proposed g V w m v is can t f old)
    new x e same (inr t) = absurd (t.0.other (own_promise g V w m f ∙ sym e))

    original : (u b : ℕ) (x : Value) → HasLogged w.past.votes b (vote_in g u b x) ⊎ ((b ≡ m)
        × (vote_in g u b x ≡ vote_for g w m v)) → IsOriginal g V w.past.own (logs_vote g w m v).past.votes u b x
    original u b x (inl h) = original_on g V w.past.own w.past.own w.past.votes
        (logs_vote g w m v).past.votes u b x (f.views.within u) (own_stays g w) grew (old.original u b x h)
    original u b x (inr t) =
        let view : u ≡ w.past.view m = ap (λ z. z.view) t.1 in
        let ballot : b ≡ w.promise m = ap (λ z. z.ballot) t.1 in
        let same : x ≡ v = ap (λ z. z.value) t.1 in rw (view, t.0) (new x (sym t.0 ∙ ballot) same can.allowed)
