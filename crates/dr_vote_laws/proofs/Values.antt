-- The votes of one world: where more than half of a view has voted by a ballot, the votes of all higher
-- ballots are for the same value.
use Rattle.std.proofs.Common.{Some, ap, arith, inl, inr, slice_get, subst, suc, sym, true, zero, ℕ, ◌<◌, ◌∙◌, ◌≡◌, ◌≢◌, ◌≤◌, ◌⊎◌}
use Rattle.std.proofs.lemmas.Bool.{cases_eq, cases_lt}
use Rattle.dr_entry.{specs.declared.record.{Value.Value, Vote.Vote}, proofs.ListPlaces.get_more}
use Rattle.dr_history.specs.Members.{has}
use Rattle.dr_machine.specs.{Group.Group, Run.PastGrew}
use Rattle.dr_machine.specs.{Votes.{HasLogged, HasVoted, IsOf, MajorityHas, Votes, vote_in}, World.World}
use Rattle.dr_faithful.specs.{Chosen.{Values, views_by}, Faithful.Numbers, Tells.Views}
use Rattle.dr_vote_laws.specs.Voting.{AreOriginal, AreVotes, IsChosen, IsFirst, IsLater, IsOriginal, Voting}
use Rattle.dr_words.proofs.Majorities.{majorities_meet_lem}

-- ---- one ballot

-- votes by one ballot of a view are for one value
pub one_ballot : (g : Group) (V : Views) (votes : Votes) (i k v b : ℕ) (x y : Value)
    → AreVotes g V votes → HasVoted g votes i v b x → HasVoted g votes k v b y → x ≡ y
one_ballot g V votes i k v b x y f p q = f.one b v b x y (f.led i v b x p) (f.led k v b y q)

-- ---- higher ballots

-- the votes of all ballots from this one on, below a bound, are for this value
abbrev AreOf : Group → Votes → ℕ → ℕ → Value → ℕ → Type 0
AreOf g votes v b x top = (k c : ℕ) (y : Value) → b ≤ c → c < top → HasVoted g votes k v c y → y ≡ x

-- more than half of the view has voted by a ballot
abbrev pub HasBallot : Group → Views → Votes → ℕ → ℕ → Type 0
HasBallot g V votes v b = MajorityHas votes (V v) (λ z. IsOf z v b)

-- one who has
has_voted : (g : Group) (V : Views) (votes : Votes) (v b i : ℕ) → AreVotes g V votes
    → (h : HasBallot g V votes v b) → has h.mask i ≡ true → (x : Value) × HasVoted g votes i v b x
has_voted g V votes v b i f h m =
    let one = h.each i m in
    let is : one.0 ≡ vote_in g v b one.0.value =
    f.own i one.0 one.1 ∙ ap (λ u. vote_in g u one.0.ballot one.0.value) one.2.in_view
    ∙ ap (λ c. vote_in g v c one.0.value) one.2.by_ballot in
    (one.0.value, subst (λ y. HasLogged votes i y) is one.1)

-- a proposal of a higher ballot has the value, where those between have it
proposal_is : (g : Group) (V : Views) (own : Numbers) (votes : Votes) (v b c : ℕ) (x y : Value) → AreVotes g V votes
    → HasBallot g V votes v b → b < c → AreOf g votes v b x c → IsOriginal g V own votes v c y → y ≡ x
proposal_is g V own votes v b c x y f h l between t =
    by t.source (majorities_meet_lem (V v) h.mask t.mask h.part t.part h.majority t.majority)
  where
    by : IsFirst g V own votes v c t.mask y ⊎ IsLater g votes v c t.mask y
        → (n : ℕ) × (n < 16) × (has (V v) n ≡ true) × (has h.mask n ≡ true) × (has t.mask n ≡ true) → y ≡ x
    by (inl first) n =
        let voted = has_voted g V votes v b n.0 f h n.3 in
        absurd (omega (arith, l, first.none n.0 b voted.0 n.4 voted.1))
    by (inr later) n = from (later.none n.0 b voted.0 n.4 voted.1)
      where
        voted : (x : Value) × HasVoted g votes n.0 v b x
        voted = has_voted g V votes v b n.0 f h n.3

        from : (b ≤ later.ballot) ⊎ (c ≤ b) → y ≡ x
        from (inl e) = between later.somebody.0 later.ballot y e later.earlier later.somebody.2
        from (inr e) = absurd (omega (arith, l, e))

-- so have all votes, ballot by ballot
all_are : (g : Group) (V : Views) (own : Numbers) (votes : Votes) (v b : ℕ) (x : Value)
    → AreVotes g V votes → AreOriginal g V own votes → HasBallot g V votes v b
    → ((k : ℕ) (y : Value) → HasVoted g votes k v b y → y ≡ x) → (top : ℕ) → AreOf g votes v b x top
all_are g V own votes v b x f o h one zero k c y e l voted = absurd (omega (arith, l))
all_are g V own votes v b x f o h one (suc top) k c y e l voted =
    by (cases_eq c b) (cases_lt c top) (all_are g V own votes v b x f o h one top)
  where
    by : (c ≡ b) ⊎ (c ≢ b) → (c < top) ⊎ (top ≤ c) → AreOf g votes v b x top → y ≡ x
    by (inl q) r below = one k y (subst (λ z. HasVoted g votes k v z y) q voted)
    by (inr d) (inl r) below = below k c y e r voted
    by (inr d) (inr r) below =
        let same : top ≡ c = omega (arith, l, r) in
        proposal_is g V own votes v b c x y f h (omega (arith, e, d))
        (subst (λ z. AreOf g votes v b x z) same below) (o v c y (f.led k v c y voted))

-- every vote of a ballot at least as high has the value
pub higher : (g : Group) (V : Views) (own : Numbers) (votes : Votes) (v b i k c : ℕ) (x y : Value)
    → AreVotes g V votes → AreOriginal g V own votes → HasBallot g V votes v b
    → HasVoted g votes i v b x → b ≤ c → HasVoted g votes k v c y → y ≡ x
higher g V own votes v b i k c x y f o h voted e other = all_are g V own votes v b x f o h
    (λ j z q. one_ballot g V votes j i v b z x f q voted) (suc c) k c y e (omega arith) other

-- ---- the laws

-- a vote as it stands on a log
pub vote_is : (g : Group) (V : Views) (w : World) (i : ℕ) (x : Vote) → Voting g V w
    → HasLogged w.past.votes i x → HasVoted g w.past.votes i x.view x.ballot x.value
vote_is g V w i x f h = subst (λ y. HasLogged w.past.votes i y) (f.valid.own i x h) h

pub same_ballot : (g : Group) (V : Views) (w : World) (i j : ℕ) (x y : Vote) → Voting g V w
    → HasLogged w.past.votes i x → HasLogged w.past.votes j y → IsOf y x.view x.ballot → x ≡ y
same_ballot g V w i j x y f h k of =
    let valid = f.valid in
    let mine : y ≡ vote_in g x.view x.ballot y.value = valid.own j y k
    ∙ ap (λ u. vote_in g u y.ballot y.value) of.in_view ∙ ap (λ b. vote_in g x.view b y.value) of.by_ballot in
    let value : x.value ≡ y.value = one_ballot g V w.past.votes i j x.view x.ballot x.value y.value valid
    (vote_is g V w i x f h) (subst (λ z. HasLogged w.past.votes j z) mine k) in
    valid.own i x h ∙ ap (λ v. vote_in g x.view x.ballot v) value ∙ sym mine

pub majority_stays : (g : Group) (V : Views) (w : World) (i j : ℕ) (x y : Vote) → Voting g V w
    → HasLogged w.past.votes i x → HasLogged w.past.votes j y
    → MajorityHas w.past.votes (V x.view) (λ z. IsOf z x.view x.ballot)
    → y.view ≡ x.view → x.ballot ≤ y.ballot → y.value ≡ x.value
majority_stays g V w i j x y f h k most view e =
    higher g V w.past.own w.past.votes x.view x.ballot i j y.ballot x.value y.value f.valid
    f.original most (vote_is g V w i x f h) e
    (subst (λ v. HasVoted g w.past.votes j v y.ballot y.value) view (vote_is g V w j y f k))

pub commits : (g : Group) (V : Views) (w : World) (m : ℕ) (v : Value) → Voting g V w
    → w.committed m ≡ Some v → (b : ℕ) × IsChosen V w.past.votes (w.past.view m) b v
commits g V w m v f e =
    let t = f.chosen m v e in (
      t.0,
      record {
        mask = t.1.mask;
        part = t.1.part;
        majority = t.1.majority;
        each = λ i h. let one = t.1.each i h in (
          one.0,
          one.1,
          (
            record { in_view = ap (λ z. z.view) one.2; by_ballot = ap (λ z. z.ballot) one.2 },
            ap (λ z. z.value) one.2,
          ),
        );
      },
    )

-- somebody of it has
pub somebody : (g : Group) (V : Views) (w : World) (v b : ℕ) (x : Value) → Voting g V w
    → IsChosen V w.past.votes v b x → (i : ℕ) × HasVoted g w.past.votes i v b x
somebody g V w v b x f h =
    let n = majorities_meet_lem (V v) h.mask h.mask h.part h.part h.majority h.majority in
    let one = h.each n.0 n.3 in
    let whole : one.0 ≡ vote_in g v b x = f.valid.own n.0 one.0 one.1
    ∙ ap (λ u. vote_in g u one.0.ballot one.0.value) one.2.0.in_view
    ∙ ap (λ c. vote_in g v c one.0.value) one.2.0.by_ballot ∙ ap (λ y. vote_in g v b y) one.2.1 in
    (n.0, subst (λ y. HasLogged w.past.votes n.0 y) whole one.1)

-- a majority for a value is one that has the ballot
ballot_of : (g : Group) (V : Views) (w : World) (v b : ℕ) (x : Value) → IsChosen V w.past.votes v b x
    → HasBallot g V w.past.votes v b
ballot_of g V w v b x h = record {
  mask = h.mask;
  part = h.part;
  majority = h.majority;
  each = λ i m. let one = h.each i m in (one.0, one.1, one.2.0);
}

-- two values that majorities of a view have voted for are one
chosen_after : (g : Group) (V : Views) (w : World) (v b c : ℕ) (x y : Value) → Voting g V w → b ≤ c
    → IsChosen V w.past.votes v b x → IsChosen V w.past.votes v c y → y ≡ x
chosen_after g V w v b c x y f e p q =
    let one = somebody g V w v b x f p in
    let two = somebody g V w v c y f q in
    higher g V w.past.own w.past.votes v b one.0 two.0 c x y f.valid f.original
    (ballot_of g V w v b x p) one.1 e two.1

pub chosen_once : (g : Group) (V : Views) (w : World) (v b c : ℕ) (x y : Value) → Voting g V w
    → IsChosen V w.past.votes v b x → IsChosen V w.past.votes v c y → x ≡ y
chosen_once g V w v b c x y f p q = by (cases_lt b c)
  where
    by : (b < c) ⊎ (c ≤ b) → x ≡ y
    by (inl l) = sym (chosen_after g V w v b c x y f (omega (arith, l)) p q)
    by (inr l) = chosen_after g V w v c b y x f l q p

-- a majority that has votes has them later
pub chosen_since : (V : Views) (early late : World) (v b : ℕ) (x : Value) → PastGrew early.past late.past
    → IsChosen V early.past.votes v b x → IsChosen V late.past.votes v b x
chosen_since V early late v b x grew h = record {
  mask = h.mask;
  part = h.part;
  majority = h.majority;
  each = λ i m. let one = h.each i m in (
    one.0,
    (
      one.1.0,
      ap (λ l. slice_get l one.1.0) (sym (grew.votes i).1)
          ∙ get_more (early.past.votes i) (grew.votes i).0 one.1.0 one.0 one.1.1,
    ),
    one.2,
  );
}

pub one_commit : (g : Group) (V : Views) (early late : World) (m k : ℕ) (u v : Value) → Voting g V early
    → Voting g V late → PastGrew early.past late.past → early.committed m ≡ Some u
    → late.committed k ≡ Some v → early.past.view m ≡ late.past.view k → u ≡ v
one_commit g V early late m k u v before f grew e h view =
    let one = commits g V early m u before e in
    let two = commits g V late k v f h in
    chosen_once g V late (early.past.view m) one.0 two.0 u v f (chosen_since V early late
    (early.past.view m) one.0 u grew one.1) (subst (λ z. IsChosen V late.past.votes z two.0 v) (sym view) two.1)

-- what a majority of a view has voted for early is so by its members as they are known later
pub voted-since : (g : Group) (one other : Values) (early late : World) (v b : ℕ) (x : Value)
    → PastGrew early.past late.past → views_by g one v ≡ views_by g other v
    → IsChosen (views_by g one) early.past.votes v b x → IsChosen (views_by g other) late.past.votes v b x
voted-since g one other early late v b x grew same voted = subst (λ mask. MajorityHas late.past.votes mask
    (λ z. IsOf z v b × (z.value ≡ x))) same (chosen_since (views_by g one) early late v b x grew voted)

-- a vote of a ballot at least as high as one by which more than half of the view has voted is for their value
pub value-of : (g : Group) (V : Views) (u : World) (m b : ℕ) (x : Value) (z : Vote) → Voting g V u
    → IsChosen V u.past.votes z.view b x → b ≤ z.ballot → HasLogged u.past.votes m z → z.value ≡ x
value-of g V u m b x z voting chosen l h =
    let one = somebody g V u z.view b x voting chosen in
    higher g V u.past.own u.past.votes z.view b one.0 m z.ballot x z.value voting.valid voting.original ballot
    one.1 l (vote_is g V u m z voting h)
  where
    ballot : MajorityHas u.past.votes (V z.view) (λ y. IsOf y z.view b)
    ballot = record {
      mask = chosen.mask;
      part = chosen.part;
      majority = chosen.majority;
      each = λ i h. let t = chosen.each i h in (t.0, t.1, t.2.0);
    }
