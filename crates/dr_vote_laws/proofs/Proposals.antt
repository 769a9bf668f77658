-- Where the value of a new proposal comes from, by the rows of the member that makes it.
use Rattle.std.{specs.Int.trailing_zeros, proofs.lemmas.Bool.{and_parts, cases_eq, cases_lt}}
use Rattle.std.proofs.Common.{Bool, ap, arith, false, inl, inr, le_of_eq, le_trans, refl, slice_index, subst, sym, true, ℕ, ◌&&◌, ◌+◌, ◌-◌, ◌<◌, ◌∙◌, ◌≡◌, ◌≢◌, ◌≤◌, ◌⊎◌, not, w16}
use Rattle.dr_entry.specs.declared.record.Value.{Value}
use Rattle.dr_history.specs.Members.{has}
use Rattle.dr_machine.specs.{Effects.{logs_vote, vote_for}, Group.{Group, IsGroup, roster}}
use Rattle.dr_machine.specs.{Guards.{CanLogVote, IsToPropose, unsuspected_of}, Votes.{HasVoted, vote_in}}
use Rattle.dr_machine.{specs.World.{World, shown}, proofs.Voting.logged_stays}
use Rattle.dr_faithful.{specs.{Faithful.Faithful, Tells.Views}, proofs.Faithfulness.final_count}
use Rattle.dr_faithful.proofs.{Suspicions.{named_in_roster, unsuspected_is}, Votes.{proposer, old_or_new}}
use Rattle.dr_vote_laws.specs.{Tells.TellsVote, Voting.{IsFirst, IsLater, IsOriginal, Voting}}
use Rattle.dr_vote_laws.proofs.{Accepting.shown_tells, Rows.{no_vote_yet, not_torn, shows_voted}}
use Rattle.dr_words.specs.{Accepts.{Shows, tag_of}, Masks.IsMajorityOf, Rewrites.is_accept_of}
use Rattle.dr_words.specs.Changes.{IsFirstValue, IsHighest, IsLeastReceived, IsProposal, IsUntagged, MayPropose, received}
use Rattle.dr_words.specs.{Columns.leavers_column, Packing.{accept_promise, accept_tag, is_final, recv_count}}
use Rattle.dr_words.proofs.{Accepts.{leavers_accept, all_promised}, Masks.in_roster_small, Ranks.least_member}

-- no word of an unsuspected row has a tag above the ballot
tag_low : (g : Group) (V : Views) (w : World) (m i c : ℕ) (v : Value) → CanLogVote g w m v
    → MayPropose (roster g) (shown w m) (w.members m) (w.suspects m) m → Faithful g V w → Voting g V w
    → has (unsuspected_of w m) i ≡ true → is_accept_of (roster g) (w.members m) c ≡ true
    → accept_tag (shown w m i c) ≤ m
tag_low g V w m i c v can may f old h a = by (cases_eq (accept_tag (shown w m i c)) (m + 1))
  where
    told : TellsVote g w.past.own w.past.votes i (w.past.view m) c (shown w m i c)
    told = shown_tells g V w m i c old (rw (← f.views.own m) a)

    promise : accept_promise (shown w m i c) ≡ m
    promise = all_promised (roster g) (shown w m) (w.members m) i m (may.promises i h) c a

    by : (accept_tag (shown w m i c) ≡ m + 1) ⊎ (accept_tag (shown w m i c) ≢ m + 1) → accept_tag (shown w m i c) ≤ m
    by (inl e) =
        let x = told.voted m e in
        let mine = old.valid.led i (w.past.view m) m x.0 x.1 in
        absurd (no_vote_yet g V w m v can f old x.0
        (subst (λ b. HasVoted g w.past.votes m (w.past.view m) b x.0) (sym (proposer g V w m f may)) mine))
    by (inr d) = omega (arith, told.low, promise, d)

-- all its words have one tag
one_tag : (g : Group) (V : Views) (w : World) (m i c : ℕ) (v : Value) → CanLogVote g w m v
    → MayPropose (roster g) (shown w m) (w.members m) (w.suspects m) m → Faithful g V w → Voting g V w
    → has (unsuspected_of w m) i ≡ true → is_accept_of (roster g) (w.members m) c ≡ true
    → accept_tag (shown w m i c) ≡ tag_of (roster g) (shown w m) i
one_tag g V w m i c v can may f old h a =
    let first : ℕ = leavers_column (roster g) in
    let there : is_accept_of (roster g) (w.members m) first ≡ true = leavers_accept (roster g) (w.members m) in
    not_torn g w.past.own w.past.votes i (w.past.view m) first c
    (shown w m i first) (shown w m i c) m (shown_tells g V w m i first old (rw (← f.views.own m) there))
    (shown_tells g V w m i c old (rw (← f.views.own m) a)) (all_promised (roster g) (shown w m) (w.members m) i m
    (may.promises i h) first there) (all_promised (roster g) (shown w m) (w.members m) i m (may.promises i h) c a)
    (tag_low g V w m i first v can may f old h there) (tag_low g V w m i c v can may f old h a)

-- each vote of an unsuspected member by a lower ballot is below the tag of its row
passed : (g : Group) (V : Views) (w : World) (m i b : ℕ) (x : Value)
    → MayPropose (roster g) (shown w m) (w.members m) (w.suspects m) m → Voting g V w
    → has (unsuspected_of w m) i ≡ true → HasVoted g w.past.votes i (w.past.view m) b x → b < m
    → b < tag_of (roster g) (shown w m) i
passed g V w m i b x may old h voted l = (shown_tells g V w m i (leavers_column (roster g)) old
    (leavers_accept (roster g) (V (w.past.view m)))).passed b x voted (rw (may.promises i h).leavers l)

-- ---- the origin, in the logs with the new vote

-- the value that the highest tag shows is that of an earlier ballot
later : (g : Group) (V : Views) (w : World) (m i : ℕ) (v : Value) → CanLogVote g w m v
    → MayPropose (roster g) (shown w m) (w.members m) (w.suspects m) m → Faithful g V w → Voting g V w
    → IsHighest (roster g) (shown w m) (unsuspected_of w m) i → Shows (roster g) (shown w m) (w.members m) i v
    → IsLater g (logs_vote g w m v).past.votes (w.past.view m) m (unsuspected_of w m) v
later g V w m i v can may f old high shows = record {
  ballot = ballot;
  earlier = omega (
    arith,
    tag,
    tag_low g V w m i (leavers_column (roster g)) v can may f old high.member
        (leavers_accept (roster g) (w.members m)),
  );
  somebody = (
    i,
    high.member,
    logged_stays w.past.votes m (vote_for g w m v) i (vote_in g (w.past.view m) ballot v) voted,
  );
  none = λ j b y h there. none j b y h (old_or_new g V w m j b v y f may there) (cases_lt b m);
}
  where
    ballot : ℕ
    ballot = tag_of (roster g) (shown w m) i - 1

    tag : tag_of (roster g) (shown w m) i ≡ ballot + 1
    tag = omega (arith, high.tagged)

    voted : HasVoted g w.past.votes i (w.past.view m) ballot v
    voted = shows_voted g V w m i ballot v f old can.whole
        (λ c a. one_tag g V w m i c v can may f old high.member a ∙ tag) shows

    none : (j b : ℕ) (y : Value) → has (unsuspected_of w m) j ≡ true
        → HasVoted g w.past.votes j (w.past.view m) b y ⊎ (m ≤ b) → (b < m) ⊎ (m ≤ b) → (b ≤ ballot) ⊎ (m ≤ b)
    none j b y h (inr new) either = inr new
    none j b y h (inl there) (inr new) = inr new
    none j b y h (inl there) (inl l) =
        inl (omega (arith, passed g V w m j b y may old h there l, high.highest j h, tag))

-- where no row has a tag the value is the first one
first : (g : Group) (V : Views) (w : World) (m : ℕ) (v : Value) → IsGroup g → w.suspects m ≢ 0
    → MayPropose (roster g) (shown w m) (w.members m) (w.suspects m) m → Faithful g V w → Voting g V w
    → IsUntagged (roster g) (shown w m) (unsuspected_of w m) → IsFirstValue (shown w m) (w.members m) (w.suspects m) v
    → IsFirst g V w.past.own (logs_vote g w m v).past.votes (w.past.view m) m (unsuspected_of w m) v
first g V w m v is some may f old untagged fresh = record {
  none = λ j b y h there. none j b y h (old_or_new g V w m j b v y f may there) (cases_lt b m);
  leavers = λ i h. leavers i (ap (λ z. has z i) (f.views.own m) ∙ h) (unsuspected_is g V w m i is f);
  newcomers = λ i h. f.suspicions.named m i (sym (ap (λ z. has z i) fresh.leavers) ∙ h);
  named = named;
  trims = λ s h. trims s (ap (λ z. has z s) (f.views.own m) ∙ h);
}
  where
    none : (j b : ℕ) (y : Value) → has (unsuspected_of w m) j ≡ true
        → HasVoted g w.past.votes j (w.past.view m) b y ⊎ (m ≤ b) → (b < m) ⊎ (m ≤ b) → m ≤ b
    none j b y h (inr new) either = new
    none j b y h (inl there) (inr new) = new
    none j b y h (inl there) (inl l) = absurd (omega (arith, passed g V w m j b y may old h there l, untagged j h))

    named : (i : ℕ) × (has v.leavers i ≡ true)
    named =
        let least = least_member (w.suspects m) (omega (arith, some))
        (in_roster_small 16 (w.suspects m) (λ i h. le_trans (named_in_roster g V w m is f i h) is.most_members)) in (
          trailing_zeros w16 (w.suspects m),
          ap (λ z. has z (trailing_zeros w16 (w.suspects m))) fresh.leavers ∙ least.member,
        )

    leavers : (i : ℕ) → has (w.members m) i ≡ true
        → has (unsuspected_of w m) i ≡ (has (w.members m) i && not (has (w.suspects m) i))
        → has v.leavers i ≡ not (has (unsuspected_of w m) i)
    leavers i h who = rw (fresh.leavers, who, h) (twice (has (w.suspects m) i))
      where
        twice : (b : Bool) → b ≡ not (true && not b)
        twice true = refl
        twice false = refl

    same : (i s : ℕ) → has (unsuspected_of w m) i ≡ true → has (w.members m) s ≡ true
        → received (λ i c. w.past.own i (w.past.view m) c) i s ≡ received (shown w m) i s
    same i s h k = ap recv_count (final_count g V w m i s may f h k)

    trims : (s : ℕ) → has (w.members m) s ≡ true
        → IsLeastReceived (λ i c. w.past.own i (w.past.view m) c) (unsuspected_of w m) s (slice_index v.trim s)
    trims s k =
        let t = fresh.trims s k in record {
          least = λ i h. rw (same i s h k) (t.least i h);
          found = (t.found.0, t.found.1, t.found.2 ∙ sym (same t.found.0 s t.found.1 k));
        }

-- so each new proposal comes from there
pub proposed : (g : Group) (V : Views) (w : World) (m : ℕ) (v : Value) → IsGroup g → CanLogVote g w m v
    → IsToPropose g w m v → Faithful g V w → Voting g V w
    → IsOriginal g V w.past.own (logs_vote g w m v).past.votes (w.past.view m) m v
proposed g V w m v is can (may, value) f old = record {
  mask = unsuspected_of w m;
  part = λ i h. ap (λ z. has z i) (sym (f.views.own m)) ∙ (and_parts _ _ (sym (unsuspected_is g V w m i is f) ∙ h)).0;
  majority = subst (λ z. IsMajorityOf (unsuspected_of w m) z) (f.views.own m) may.majority;
  promised = λ i h. le_trans (le_of_eq (sym (may.promises i h).leavers)) (shown_tells g V w m i
      (leavers_column (roster g)) old (leavers_accept (roster g) (V (w.past.view m)))).promised;
  final = λ i s h k.
      let there : has (w.members m) s ≡ true = ap (λ z. has z s) (f.views.own m) ∙ k in
      ap is_final (final_count g V w m i s may f h there) ∙ may.final i s h there;
  source = source value;
}
  where
    source : IsProposal (roster g) (shown w m) (w.members m) (w.suspects m) v
        → IsFirst g V w.past.own (logs_vote g w m v).past.votes (w.past.view m) m (unsuspected_of w m) v
        ⊎ IsLater g (logs_vote g w m v).past.votes (w.past.view m) m (unsuspected_of w m) v
    source (inl t) = inr (later g V w m t.0 v can may f old t.1 t.2)
    source (inr t) = inl (first g V w m v is can.wedged may f old t.0 t.1)
