-- A member accepts what it has voted for, and commits what it has accepted.
use Rattle.std.{specs.Prelude.unwrap_or, proofs.lemmas.Bool.cases_eq}
use Rattle.std.proofs.Common.{None, Some, ap, arith, inl, inr, le_of_eq, subst, sym, true, ℕ, ◌+◌, ◌-◌, ◌<◌, ◌∙◌, ◌≡◌, ◌≢◌, ◌⊎◌}
use Rattle.dr_entry.specs.declared.record.{Value.Value, Vote.Vote}
use Rattle.dr_history.specs.Members.{has}
use Rattle.dr_machine.specs.{Effects.{accepts, commits}, Group.{Group, IsGroup, roster}, Guards.CanCommit}
use Rattle.dr_machine.specs.{Votes.{HasLogged, HasVoted, MajorityHas, vote_in}, World.{World, no_vote, shown}}
use Rattle.dr_machine.proofs.Voting.{accepted_row, vote_waiting, mine_after, word_before}
use Rattle.dr_machine.proofs.{Worlds.{shown_own, shown_seen, tagged_is}, Writes.{at_case, at_other, at_same}}
use Rattle.dr_faithful.{specs.{Faithful.{Faithful, IsWaiting}, Tells.Views}, proofs.Faithfulness.OwnGrew}
use Rattle.dr_faithful.proofs.Votes.{accept_grew, is_waiting, own_tag, row_promise, row_tag, row_value}
use Rattle.dr_vote_laws.{specs.{Tells.{TellsVote, promise_in, tag_in}, Voting.Voting}, proofs.Frames.row_rewritten}
use Rattle.dr_vote_laws.proofs.Later.{original_on, votes_same}
use Rattle.dr_words.{specs.{Accepts.tag_of, Packing.{accept_promise, accept_tag}}, proofs.Accepts.leavers_accept}
use Rattle.dr_words.specs.{Changes.tagged_members, Columns.leavers_column, Masks.IsMajorityOf, Rewrites.is_accept_of}

-- ---- what is shown

-- each accept word that a member has of another, or of itself, tells
pub shown_tells : (g : Group) (V : Views) (w : World) (m i c : ℕ) → Voting g V w
    → is_accept_of (roster g) (V (w.past.view m)) c ≡ true
    → TellsVote g w.past.own w.past.votes i (w.past.view m) c (shown w m i c)
shown_tells g V w m i c f a = by (cases_eq i m)
  where
    by : (i ≡ m) ⊎ (i ≢ m) → TellsVote g w.past.own w.past.votes i (w.past.view m) c (shown w m i c)
    by (inl e) = rw (shown_own w m i c e) (f.words.in_own i (w.past.view m) c a)
    by (inr d) = rw (shown_seen w m i c d) (f.words.in_seen m i c a)

-- ---- an acceptance

-- the vote that waits is on the log, in the present view and by the ballot of the promise
pub waiting_voted : (g : Group) (V : Views) (w : World) (m : ℕ) (x : Vote) → w.pending m ≡ Some x → Voting g V w
    → HasVoted g w.past.votes m (w.past.view m) (vote_waiting w m).ballot (vote_waiting w m).value
waiting_voted g V w m x e f =
    let there = f.acted.waiting m x e in
    let same : vote_waiting w m ≡ x = ap (λ o. unwrap_or o no_vote) e in
    let is : x ≡ vote_in g (w.past.view m) x.ballot x.value =
    f.valid.own m x there.0 ∙ ap (λ v. vote_in g v x.ballot x.value) there.1 in
    rw same (subst (λ y. HasLogged w.past.votes m y) is there.0)

-- the own promise stays, and the own tag is that of the vote
promise_now : (g : Group) (V : Views) (w : World) (m : ℕ) (x : Vote) → IsGroup g → w.pending m ≡ Some x
    → Faithful g V w → promise_in g (accepts g w m).past.own m (w.past.view m) ≡ w.promise m
promise_now g V w m x is e f =
    let c : ℕ = leavers_column (roster g) in
    ap accept_promise (mine_after g w m c) ∙ row_promise g V w m c x is e f (leavers_accept (roster g) (w.members m))
    ∙ f.suspicions.accept m c (leavers_accept (roster g) (V (w.past.view m)))

tag_now : (g : Group) (V : Views) (w : World) (m : ℕ) (x : Vote) → IsGroup g → w.pending m ≡ Some x → Faithful g V w
    → tag_in g (accepts g w m).past.own m (w.past.view m) ≡ (vote_waiting w m).ballot + 1
tag_now g V w m x is e f =
    let c : ℕ = leavers_column (roster g) in
    ap accept_tag (mine_after g w m c) ∙ row_tag g V w m c x is e f (leavers_accept (roster g) (w.members m))

-- each accept word of the row tells
row_votes : (g : Group) (V : Views) (w : World) (m c : ℕ) (x : Vote) → IsGroup g → w.pending m ≡ Some x
    → Faithful g V w → Voting g V w → is_accept_of (roster g) (V (w.past.view m)) c ≡ true
    → TellsVote g (accepts g w m).past.own w.past.votes m (w.past.view m) c (accepted_row g w m c)
row_votes g V w m c x is e f old a = record {
  promised = le_of_eq (promise ∙ sym (promise_now g V w m x is e f));
  low = omega (arith, tag, promise, waits.ballot);
  voted = λ b l. (
    (vote_waiting w m).value,
    subst (λ k. HasVoted g w.past.votes m (w.past.view m) k (vote_waiting w m).value)
        (omega (arith, tag, l)) (waiting_voted g V w m x e old),
    row_value g V w m c x is e f mine,
  );
  passed = λ b y h l. omega (arith, tag, promise, waits.ballot, l);
}
  where
    mine : is_accept_of (roster g) (w.members m) c ≡ true
    mine = rw (f.views.own m) a

    waits : IsWaiting g (w.promise m) (w.tag m) (vote_waiting w m)
    waits = is_waiting g V w m x e f

    promise : accept_promise (accepted_row g w m c) ≡ w.promise m
    promise = row_promise g V w m c x is e f mine ∙ f.suspicions.accept m c a

    tag : accept_tag (accepted_row g w m c) ≡ (vote_waiting w m).ballot + 1
    tag = row_tag g V w m c x is e f mine

-- every vote has a ballot below the tag now, but for one that waits
below_now : (g : Group) (V : Views) (w : World) (m : ℕ) (x : Vote) → IsGroup g → w.pending m ≡ Some x
    → Faithful g V w → Voting g V w → (i v b : ℕ) (y : Value) → HasVoted g w.past.votes i v b y
    → (b < tag_in g (accepts g w m).past.own i v) ⊎ ((accepts g w m).pending i ≡ Some (vote_in g v b y))
below_now g V w m x is e f old i v b y h = by (cases_eq i m) (cases_eq v (w.past.view m)) (old.acted.below i v b y h)
  where
    waits : IsWaiting g (w.promise m) (w.tag m) (vote_waiting w m)
    waits = is_waiting g V w m x e f

    tag : tag_in g w.past.own m (w.past.view m) ≡ w.tag m
    tag = f.accepts.tagged m (leavers_column (roster g)) (leavers_accept (roster g) (V (w.past.view m)))

    same : vote_waiting w m ≡ x
    same = ap (λ o. unwrap_or o no_vote) e

    kept : (i ≢ m) ⊎ (v ≢ w.past.view m) → tag_in g (accepts g w m).past.own i v ≡ tag_in g w.past.own i v
    kept d = ap accept_tag (word_before g w m i v (leavers_column (roster g)) d)

    -- the ballot of one of its votes in the present view
    low : (b < tag_in g w.past.own m (w.past.view m)) ⊎ (w.pending m ≡ Some (vote_in g v b y))
        → b < (vote_waiting w m).ballot + 1
    low (inl l) = omega (arith, l, tag, waits.above, waits.ballot)
    low (inr p) =
        let one : vote_in g v b y ≡ x = cc (e, p) in
        let ballot : b ≡ (vote_waiting w m).ballot = ap (λ z. z.ballot) (one ∙ sym same) in omega (arith, ballot)

    by : (i ≡ m) ⊎ (i ≢ m) → (v ≡ w.past.view m) ⊎ (v ≢ w.past.view m)
        → (b < tag_in g w.past.own i v) ⊎ (w.pending i ≡ Some (vote_in g v b y))
        → (b < tag_in g (accepts g w m).past.own i v) ⊎ ((accepts g w m).pending i ≡ Some (vote_in g v b y))
    by (inl q) (inl r) was = inl (rw (q, r, tag_now g V w m x is e f)
        (low (subst (λ u. (b < tag_in g w.past.own m u) ⊎ (w.pending m ≡ Some (vote_in g v b y))) r
        (subst (λ k. (b < tag_in g w.past.own k v) ⊎ (w.pending k ≡ Some (vote_in g v b y))) q was))))
    by (inl q) (inr d) (inl l) = inl (rw (kept (inr d)) l)
    by (inl q) (inr d) (inr p) = absurd (d (old.acted.waiting m (vote_in g v b y) (ap w.pending (sym q) ∙ p)).1)
    by (inr d) r (inl l) = inl (rw (kept (inl d)) l)
    by (inr d) r (inr p) = inr (at_other w.pending m None i d ∙ p)

-- what is true of votes stays so
pub accept_votes : (g : Group) (V : Views) (w : World) (m : ℕ) (x : Vote) → IsGroup g
    → w.pending m ≡ Some x → Faithful g V w → Voting g V w → Voting g V (accepts g w m)
accept_votes g V w m x is e f old = record {
  valid = old.valid;
  acted = record {
    below = below_now g V w m x is e f old;
    accepted = λ i b t. accepted i b (cases_eq i m) t;
    waiting = at_case (λ i p. (y : Vote) → p ≡ Some y → HasLogged w.past.votes i y
        × (y.view ≡ w.past.view i)) w.pending m None (λ i d. old.acted.waiting i) (λ y p. absurd (cc p));
  };
  original = λ v b y h. original_on g V w.past.own (accepts g w m).past.own w.past.votes w.past.votes
      v b y (f.views.within v) grew (votes_same g w.past.own w.past.votes) (old.original v b y h);
  words = row_rewritten g V w.past.view w.past.own m (w.past.view m) (accepted_row g w m) w.table w.seen
      w.past.votes grew (λ c a. row_votes g V w m c x is e f old a) old.words;
  chosen = old.chosen;
}
  where
    grew : OwnGrew g w.past.own (accepts g w m).past.own
    grew = (accept_grew g V w m x e f).own

    accepted : (i b : ℕ) → (i ≡ m) ⊎ (i ≢ m) → (accepts g w m).tag i ≡ b + 1
        → HasVoted g w.past.votes i (w.past.view i) b ((accepts g w m).value i)
    accepted i b (inl q) t =
        let tag : (vote_waiting w m).ballot + 1 ≡ b + 1 =
        sym (ap (accepts g w m).tag q ∙ at_same w.tag m ((vote_waiting w m).ballot + 1)) ∙ t in
        rw (q, at_same w.value m (vote_waiting w m).value)
        (subst (λ k. HasVoted g w.past.votes m (w.past.view m) k (vote_waiting w m).value)
        (omega (arith, tag)) (waiting_voted g V w m x e old))
    accepted i b (inr d) t = rw (at_other w.value m (vote_waiting w m).value i d)
        (old.acted.accepted i b (sym (at_other w.tag m ((vote_waiting w m).ballot + 1) i d) ∙ t))

-- ---- a commit

-- votes by one ballot are of one value
pub one_ballot : (g : Group) (V : Views) (w : World) (i k v b : ℕ) (x y : Value) → Voting g V w
    → HasVoted g w.past.votes i v b x → HasVoted g w.past.votes k v b y → x ≡ y
one_ballot g V w i k v b x y f p q = f.valid.one b v b x y (f.valid.led i v b x p) (f.valid.led k v b y q)

-- they have votes for the value that is committed
pub commit_votes : (g : Group) (V : Views) (w : World) (m : ℕ) → CanCommit g w m → Faithful g V w
    → Voting g V w → Voting g V (commits w m)
commit_votes g V w m can f old = record {
  valid = old.valid;
  acted = old.acted;
  original = old.original;
  words = old.words;
  chosen = at_case (λ i o. (x : Value) → o ≡ Some x → (b : ℕ)
      × MajorityHas w.past.votes (V (w.past.view i)) (λ z. z ≡ vote_in g (w.past.view i) b x)) w.committed m
      (Some (w.value m)) (λ i d. old.chosen i) (λ x e. chosen x (cc e));
}
  where
    tag : ℕ
    tag = tag_of (roster g) (shown w m) m

    some : tag_of (roster g) (shown w m) m ≢ 0
    some = can.rows.accepted

    ballot : ℕ
    ballot = tag_of (roster g) (shown w m) m - 1

    next : tag_of (roster g) (shown w m) m ≡ ballot + 1
    next = omega (arith, some)

    each : (i : ℕ) → has (tagged_members (roster g) (shown w m) (w.members m) tag) i ≡ true
        → HasVoted g w.past.votes i (w.past.view m) ballot (w.value m)
    each i h =
        let told = shown_tells g V w m i (leavers_column (roster g)) old
        (leavers_accept (roster g) (V (w.past.view m))) in
        let x = told.voted ballot ((tagged_is g w m i tag h).1 ∙ next) in
        let mine = old.acted.accepted m ballot (sym (own_tag g V w m f) ∙ next) in
        subst (λ y. HasVoted g w.past.votes i (w.past.view m) ballot y)
        (one_ballot g V w i m (w.past.view m) ballot x.0 (w.value m) old x.1 mine) x.1

    chosen : (x : Value) → w.value m ≡ x → (b : ℕ)
        × MajorityHas w.past.votes (V (w.past.view m)) (λ z. z ≡ vote_in g (w.past.view m) b x)
    chosen x e = (
      ballot,
      record {
        mask = tagged_members (roster g) (shown w m) (w.members m) tag;
        part = λ i h. subst (λ k. has k i ≡ true) (f.views.own m) (tagged_is g w m i tag h).0;
        majority = subst (λ k. IsMajorityOf (tagged_members (roster g) (shown w m) (w.members m) tag) k)
            (f.views.own m) can.rows.majority;
        each = λ i h. (
          vote_in g (w.past.view m) ballot (w.value m),
          each i h,
          ap (λ y. vote_in g (w.past.view m) ballot y) e,
        );
      },
    )
