-- What comes of a log between two votes of its member.
use Rattle.std.proofs.Common.{◌≡◌, refl, ap, sym, ◌∙◌, ◌⊎◌, inl, inr, subst, ℕ, ◌+◌, ◌<◌, ◌≤◌, arith, true, List, [], ◌∷◌, Contains, None, Some, slice_index, ⊎_elim}
use Rattle.std.proofs.lemmas.{Bool.cases_eq, List.Elements.{Contains-append_left, Contains-push, Contains-push_cases}}
use Rattle.std.proofs.lemmas.Option.{none-some, same_Some}
use Rattle.dr_entry.specs.declared.record.AgeVote.{AgeVote}
use Rattle.dr_history.specs.{Members.has, declared.opening.Opening.Opening}
use Rattle.dr_restart.specs.{Choosing.{IsChosenStart, of_set}, Trying.{MayBeBroughtUp, age_vote_of}}
use Rattle.dr_restart.specs.declared.lists.LogLists.{LogLists}
use Rattle.dr_calls.specs.Wire.{AreGiven, Begins, Called, ComesTo, Given, HandsIn, IsNew, IsOpened, Leaves, Place, Rises, Runs, Voted, Votes, Wire, WireStep, WireWay, moment, stood, vote_of}
use Rattle.dr_calls.proofs.Moments.{AreSorted, at-hit, at-miss, at-none, at-push, at-some, none-sorted, sorted-push}
use Rattle.dr_calls.proofs.Ordered.{Holds, IsOf, holds, holds-next, own-log, votes-above}

-- a vote as it was cast
pub record WasCast (o : Opening) (w : Wire) (v : Voted) : Type 0 where
  pub inside : has v.call.set v.member ≡ true
  pub chosen : IsChosenStart o (of_set v.logs v.call.set) v.start
  pub present : v.start.present ≡ v.call.set
  pub members : v.start.members ≡ v.start.present
  pub given : AreGiven w v.call v.logs
  pub own : Contains w.given (record { member = v.member; long = slice_index v.call.lengths v.member; lists = v.before })

-- what a log is behind a vote: with more votes for ages; and brought up only where all have voted, unless the age of the
-- call has begun
pub record IsBehind (w : Wire) (v : Voted) (l : LogLists) : Type 0 where
  pub keeps : (x : AgeVote) → Contains v.before.age_votes x → Contains l.age_votes x
  pub voted : Contains l.age_votes (age_vote_of v.start)
  pub how : Contains w.ages v.call ⊎ ((l.votes ≡ v.before.votes) × ((l.entries ≡ v.before.entries)
      ⊎ (IsOpened w v.call × MayBeBroughtUp v.start v.before.entries l.entries)))

-- what always holds besides
pub record Keeps (o : Opening) (begun w : Wire) : Type 0 where
  pub holds : Holds o w
  pub cast : (v : Voted) → Contains w.votes v → WasCast o w v
  pub one : (g h : Given) → Contains w.given g → Contains w.given h → g.member ≡ h.member → g.long ≡ h.long
      → g.lists ≡ h.lists
  pub behind : (v : Voted) → Contains w.votes v → IsBehind w v (moment w (v.call.age + 1) v.member)
  pub first : (m : ℕ) → moment w 0 m ≡ (begun.places m).lists
  pub sorted : AreSorted w.votes
  pub opens : (c : Called) → Contains w.ages c → IsOpened w c
  pub last : (m : ℕ) (v : Voted) → (w.places m).tries ≡ Some v → Contains w.votes v × (v.member ≡ m)
      × ((u : Voted) → Contains w.votes u → u.member ≡ m → u.call.age ≤ v.call.age)

-- ---- what is handed in and voted later changes none of it

opened-more : (w next : Wire) (call : Called) → ((v : Voted) → Contains w.votes v → Contains next.votes v)
    → IsOpened w call → IsOpened next call
opened-more w next call more opened k inside =
    let t = opened k inside in (t.0, more t.0 t.1, t.2, t.3)

behind-more : (w next : Wire) (v : Voted) (l : LogLists) → ((u : Voted) → Contains w.votes u → Contains next.votes u)
    → ((c : Called) → Contains w.ages c → Contains next.ages c) → IsBehind w v l → IsBehind next v l
behind-more w next v l more ages b = record {
  keeps = b.keeps;
  voted = b.voted;
  how = ⊎_elim (λ c. inl (ages v.call c))
      (λ t. inr (t.0, ⊎_elim inl (λ s. inr (opened-more w next v.call more s.0, s.1)) t.1)) b.how;
}

cast-more : (o : Opening) (w next : Wire) (v : Voted) → ((g : Given) → Contains w.given g → Contains next.given g)
    → WasCast o w v → WasCast o next v
cast-more o w next v more c = record {
  inside = c.inside;
  chosen = c.chosen;
  present = c.present;
  members = c.members;
  given = λ k log inside is. more _ (c.given k log inside is);
  own = more _ c.own;
}

-- ---- steps that change no log

-- the lists of each place are as before
abbrev SameLists : Wire → Wire → Type 0
SameLists w next = (k : ℕ) → (next.places k).lists ≡ (w.places k).lists

same-places : (w next : Wire) (m : ℕ) (p : Place) → ComesTo w m p next → p.lists ≡ (w.places m).lists
    → SameLists w next
same-places w next m p comes same k = by (cases_eq k m)
  where
    by : (k ≡ m) ⊎ (k ≡ m → ⊥) → (next.places k).lists ≡ (w.places k).lists
    by (inl e) = subst (λ n. (next.places n).lists ≡ (w.places n).lists) (sym e) (ap (λ q. q.lists) comes.own ∙ same)
    by (inr n) = ap (λ q. q.lists) (comes.others k n)

-- the vote with which a member is
tries-at : (w next : Wire) (m : ℕ) (p : Place) → ComesTo w m p next → p.tries ≡ None → (k : ℕ) (v : Voted)
    → (next.places k).tries ≡ Some v → (w.places k).tries ≡ Some v
tries-at w next m p comes none k v e = by (cases_eq k m)
  where
    by : (k ≡ m) ⊎ (k ≡ m → ⊥) → (w.places k).tries ≡ Some v
    by (inl f) = absurd (none-some v (sym none ∙ sym (ap (λ q. q.tries) comes.own)
        ∙ subst (λ n. (next.places n).tries ≡ Some v) f e))
    by (inr n) = ap (λ q. q.tries) (sym (comes.others k n)) ∙ e

quiet : (o : Opening) (begun w next : Wire) → Keeps o begun w → Holds o next → SameLists w next
    → next.votes ≡ w.votes → ((g : Given) → Contains w.given g → Contains next.given g)
    → ((g h : Given) → Contains next.given g → Contains next.given h → g.member ≡ h.member → g.long ≡ h.long
    → g.lists ≡ h.lists) → ((k : ℕ) (v : Voted) → (next.places k).tries ≡ Some v → (w.places k).tries ≡ Some v)
    → ((c : Called) → Contains w.ages c → Contains next.ages c)
    → ((c : Called) → Contains next.ages c → IsOpened next c) → Keeps o begun next
quiet o begun w next k h same votes more one tries ages opens = record {
  holds = h;
  cast = λ v c. cast-more o w next v more (k.cast v (old v c));
  one = one;
  behind = λ v c. subst (λ l. IsBehind next v l) (now (v.call.age + 1) v.member)
      (behind-more w next v _ new ages (k.behind v (old v c)));
  first = λ m. sym (now 0 m) ∙ k.first m;
  sorted = subst AreSorted (sym votes) k.sorted;
  opens = opens;
  last = λ m v e. let t = k.last m v (tries m v e) in (new v t.0, t.1, λ u c f. t.2 u (old u c) f);
}
  where
    old : (v : Voted) → Contains next.votes v → Contains w.votes v
    old v c = subst (λ l. Contains l v) votes c

    new : (v : Voted) → Contains w.votes v → Contains next.votes v
    new v c = subst (λ l. Contains l v) (sym votes) c

    now : (a m : ℕ) → moment w a m ≡ moment next a m
    now a m = ap (λ vs. stood vs a m (w.places m).lists) (sym votes) ∙ ap (stood next.votes a m) (sym (same m))

hands-in : (o : Opening) (begun w next : Wire) → Keeps o begun w → Holds o next → HandsIn w next → Keeps o begun next
hands-in o begun w next k h s = quiet o begun w next k h (same-places w next s.member _ s.comes refl) s.votes
    (λ g c. subst (λ l. Contains l g) (sym s.given) (Contains-append_left _ _ g c))
    (λ g i c d e f. by g i (which g c) (which i d) e f) (tries-at w next s.member _ s.comes refl)
    (λ c d. subst (λ l. Contains l c) (sym s.ages) d) (λ c d. opened-more w next c
    (λ v e. subst (λ l. Contains l v) (sym s.votes) e) (k.opens c (subst (λ l. Contains l c) s.ages d)))
  where
    this : Given
    this = record { member = s.member; long = (w.places s.member).long; lists = (w.places s.member).lists }

    which : (g : Given) → Contains next.given g → Contains w.given g ⊎ (this ≡ g)
    which g c = Contains-push_cases w.given this g (subst (λ l. Contains l g) s.given c)

    -- one that was handed in before with this length is the same
    before : (g : Given) → Contains w.given g → g.member ≡ s.member → g.long ≡ (w.places s.member).long
        → g.lists ≡ (w.places s.member).lists
    before g c e f = (subst (λ m. IsOf (w.places m) g) e (k.holds.given g c)).same f

    by : (g i : Given) → Contains w.given g ⊎ (this ≡ g) → Contains w.given i ⊎ (this ≡ i) → g.member ≡ i.member
        → g.long ≡ i.long → g.lists ≡ i.lists
    by g i (inl c) (inl d) e f = k.one g i c d e f
    by g i (inl c) (inr d) e f = before g c (e ∙ ap (λ x. x.member) (sym d)) (f ∙ ap (λ x. x.long) (sym d))
        ∙ ap (λ x. x.lists) d
    by g i (inr c) (inl d) e f = ap (λ x. x.lists) (sym c)
        ∙ sym (before i d (sym e ∙ ap (λ x. x.member) (sym c)) (sym f ∙ ap (λ x. x.long) (sym c)))
    by g i (inr c) (inr d) e f = ap (λ x. x.lists) (sym c ∙ d)

leaves : (o : Opening) (begun w next : Wire) → Keeps o begun w → Holds o next → Leaves w next → Keeps o begun next
leaves o begun w next k h s = quiet o begun w next k h (same-places w next s.member _ s.comes refl) s.votes
    (λ g c. subst (λ l. Contains l g) (sym s.given) c)
    (λ g i c d e f. k.one g i (old g c) (old i d) e f) (tries-at w next s.member _ s.comes refl)
    (λ c d. subst (λ l. Contains l c) (sym s.ages) d) (λ c d. opened-more w next c
    (λ v e. subst (λ l. Contains l v) (sym s.votes) e) (k.opens c (subst (λ l. Contains l c) s.ages d)))
  where
    old : (g : Given) → Contains next.given g → Contains w.given g
    old g c = subst (λ l. Contains l g) s.given c

-- ---- a vote

votes : (o : Opening) (begun w next : Wire) → Keeps o begun w → Holds o next → Votes o w next → Keeps o begun next
votes o begun w next k h s = record {
  holds = h;
  cast = λ v c. cast v (which v c);
  one = λ g i c d e f. k.one g i (same-given g c) (same-given i d) e f;
  behind = λ v c. behind v (which v c);
  first = λ m. same 0 m (λ e. omega arith) ∙ k.first m;
  sorted = subst AreSorted (sym s.votes) (sorted-push w.votes vote k.sorted (λ v c e. above v c e));
  opens = λ c d. opened-more w next c new (k.opens c (old-age c d));
  last = λ m v e. last m v e (cases_eq m s.member);
}
  where
    vote : Voted
    vote = vote_of w s.member s.call s.logs s.start

    which : (v : Voted) → Contains next.votes v → Contains w.votes v ⊎ (vote ≡ v)
    which v c = Contains-push_cases w.votes vote v (subst (λ l. Contains l v) s.votes c)

    new : (v : Voted) → Contains w.votes v → Contains next.votes v
    new v c = subst (λ l. Contains l v) (sym s.votes) (Contains-append_left _ _ v c)

    its : Contains next.votes vote
    its = subst (λ l. Contains l vote) (sym s.votes) (Contains-push _ _)

    same-given : (g : Given) → Contains next.given g → Contains w.given g
    same-given g c = subst (λ l. Contains l g) s.stays c

    old-age : (c : Called) → Contains next.ages c → Contains w.ages c
    old-age c d = subst (λ l. Contains l c) s.ages d

    new-age : (c : Called) → Contains w.ages c → Contains next.ages c
    new-age c d = subst (λ l. Contains l c) (sym s.ages) d

    more : (g : Given) → Contains w.given g → Contains next.given g
    more g c = subst (λ l. Contains l g) (sym s.stays) c

    above : (v : Voted) → Contains w.votes v → v.member ≡ s.member → v.call.age < s.call.age
    above v c e = votes-above o w next k.holds s v c e

    -- with the vote at the end
    pushed : (a m : ℕ) → moment next a m ≡ stood w.votes a m (stood (vote ∷ []) a m (next.places m).lists)
    pushed a m = ap (λ vs. stood vs a m (next.places m).lists) s.votes ∙ at-push w.votes vote a m (next.places m).lists

    -- before it nothing has changed
    same : (a m : ℕ) → (s.member ≡ m → a ≤ s.call.age) → moment next a m ≡ moment w a m
    same a m l = pushed a m ∙ ap (stood w.votes a m) (by (cases_eq s.member m))
      where
        by : (s.member ≡ m) ⊎ (s.member ≡ m → ⊥) → stood (vote ∷ []) a m (next.places m).lists ≡ (w.places m).lists
        by (inl e) = at-hit vote a m (next.places m).lists e (l e) ∙ ap (λ n. (w.places n).lists) e
        by (inr n) = at-miss vote a m (next.places m).lists (λ e. absurd (n e))
            ∙ ap (λ p. p.lists) (s.comes.others m (λ e. n (sym e)))

    -- and behind it is what stands there now
    after : moment next (s.call.age + 1) s.member ≡ (next.places s.member).lists
    after = pushed (s.call.age + 1) s.member
        ∙ at-none w.votes (s.call.age + 1) s.member _ (λ v c e. omega (arith, above v c e))
        ∙ at-miss vote (s.call.age + 1) s.member (next.places s.member).lists (λ e. omega arith)

    cast : (v : Voted) → Contains w.votes v ⊎ (vote ≡ v) → WasCast o next v
    cast v (inl c) = cast-more o w next v more (k.cast v c)
    cast v (inr e) = subst (λ x. WasCast o next x) e (record {
      inside = s.inside;
      chosen = s.chosen;
      present = s.present;
      members = s.members;
      given = λ n log inside is. more _ (s.given n log inside is);
      own = more _ own;
    })
      where
        own : Contains w.given
            (record { member = s.member; long = slice_index s.call.lengths s.member; lists = (w.places s.member).lists })
        own =
            let t = own-log o w next k.holds s in
            subst (λ l. Contains w.given (record {
              member = s.member;
              long = slice_index s.call.lengths s.member;
              lists = l;
            })) t.1.now t.1.given

    behind : (v : Voted) → Contains w.votes v ⊎ (vote ≡ v) → IsBehind next v (moment next (v.call.age + 1) v.member)
    behind v (inl c) = subst (λ l. IsBehind next v l)
        (sym (same (v.call.age + 1) v.member (λ e. omega (arith, above v c (sym e)))))
        (behind-more w next v _ new new-age (k.behind v c))
    behind v (inr e) = subst (λ x. IsBehind next x (moment next (x.call.age + 1) x.member)) e
        (subst (λ l. IsBehind next vote l) (sym (after ∙ ap (λ p. p.lists) s.comes.own)) (record {
          keeps = λ x c. Contains-append_left _ _ x c;
          voted = Contains-push _ _;
          how = inr (refl, inl refl);
        }))

    last : (m : ℕ) (v : Voted) → (next.places m).tries ≡ Some v → (m ≡ s.member) ⊎ (m ≡ s.member → ⊥)
        → Contains next.votes v × (v.member ≡ m)
        × ((u : Voted) → Contains next.votes u → u.member ≡ m → u.call.age ≤ v.call.age)
    last m v t (inl e) =
        let f : vote ≡ v = same_Some _ _ (sym (ap (λ p. p.tries) s.comes.own) ∙ subst (λ n. (next.places n).tries ≡ Some v) e t) in (
          subst (λ x. Contains next.votes x) f its,
          ap (λ x. x.member) (sym f) ∙ sym e,
          λ u c g. subst (λ x. u.call.age ≤ x.call.age) f (most u (which u c) (g ∙ e)),
        )
      where
        most : (u : Voted) → Contains w.votes u ⊎ (vote ≡ u) → u.member ≡ s.member → u.call.age ≤ s.call.age
        most u (inl c) g = omega (arith, above u c g)
        most u (inr f) g = omega (arith, ap (λ x. x.call.age) f)
    last m v t (inr n) =
        let r = k.last m v (ap (λ p. p.tries) (sym (s.comes.others m n)) ∙ t) in
        (new v r.0, r.1, λ u c g. ⊎_elim (λ d. r.2 u d g) (λ f. absurd (n (sym g ∙ ap (λ x. x.member) (sym f)))) (which u c))

-- ---- a log that gets longer

-- the log of a member that has voted is others from now on
record Gets (w next : Wire) : Type 0 where
  pub member : ℕ
  pub vote : Voted
  pub tries : (w.places member).tries ≡ Some vote
  pub place : Place
  pub still : place.tries ≡ Some vote
  pub comes : ComesTo w member place next
  pub behind : IsBehind w vote (w.places member).lists → IsBehind w vote place.lists
  pub given : next.given ≡ w.given
  pub votes : next.votes ≡ w.votes
  pub ages : next.ages ≡ w.ages

gets : (o : Opening) (begun w next : Wire) → Keeps o begun w → Holds o next → Gets w next → Keeps o begun next
gets o begun w next k h s = record {
  holds = h;
  cast = λ v c. cast-more o w next v more (k.cast v (old v c));
  one = λ g i c d e f. k.one g i (same-given g c) (same-given i d) e f;
  behind = λ v c. behind v (old v c) (cases_eq v.member s.member);
  first = λ m. first m (cases_eq m s.member) ∙ k.first m;
  sorted = subst AreSorted (sym s.votes) k.sorted;
  opens = λ c d. opened-more w next c new (k.opens c (subst (λ l. Contains l c) s.ages d));
  last = λ m v e. last m v e (cases_eq m s.member);
}
  where
    mine : Contains w.votes s.vote × (s.vote.member ≡ s.member)
        × ((u : Voted) → Contains w.votes u → u.member ≡ s.member → u.call.age ≤ s.vote.call.age)
    mine = k.last s.member s.vote s.tries

    old : (v : Voted) → Contains next.votes v → Contains w.votes v
    old v c = subst (λ l. Contains l v) s.votes c

    new : (v : Voted) → Contains w.votes v → Contains next.votes v
    new v c = subst (λ l. Contains l v) (sym s.votes) c

    same-given : (g : Given) → Contains next.given g → Contains w.given g
    same-given g c = subst (λ l. Contains l g) s.given c

    new-age : (c : Called) → Contains w.ages c → Contains next.ages c
    new-age c d = subst (λ l. Contains l c) (sym s.ages) d

    more : (g : Given) → Contains w.given g → Contains next.given g
    more g c = subst (λ l. Contains l g) (sym s.given) c

    -- where another member is, or a later vote, all is as before
    elsewhere : (a m : ℕ) → (m ≡ s.member → ⊥) → moment next a m ≡ moment w a m
    elsewhere a m n = ap (λ vs. stood vs a m (next.places m).lists) s.votes
        ∙ ap (λ p. stood w.votes a m p.lists) (s.comes.others m n)

    earlier : (a m : ℕ) → m ≡ s.member → a ≤ s.vote.call.age → moment next a m ≡ moment w a m
    earlier a m e l = ap (λ vs. stood vs a m (next.places m).lists) s.votes
        ∙ at-some w.votes a m s.vote mine.0 (mine.1 ∙ sym e) l (next.places m).lists (w.places m).lists

    first : (m : ℕ) → (m ≡ s.member) ⊎ (m ≡ s.member → ⊥) → moment next 0 m ≡ moment w 0 m
    first m (inl e) = earlier 0 m e (omega arith)
    first m (inr n) = elsewhere 0 m n

    -- behind its own vote stands what is there now
    own-before : IsBehind w s.vote (w.places s.member).lists
    own-before = subst (λ l. IsBehind w s.vote l)
        (ap (λ n. moment w (s.vote.call.age + 1) n) mine.1
        ∙ at-none w.votes (s.vote.call.age + 1) s.member _ (λ u c e. omega (arith, mine.2 u c e)))
        (k.behind s.vote mine.0)

    own-after : moment next (s.vote.call.age + 1) s.member ≡ (next.places s.member).lists
    own-after = ap (λ vs. stood vs (s.vote.call.age + 1) s.member (next.places s.member).lists) s.votes
        ∙ at-none w.votes (s.vote.call.age + 1) s.member _ (λ u c e. omega (arith, mine.2 u c e))

    own-behind : IsBehind next s.vote (moment next (s.vote.call.age + 1) s.vote.member)
    own-behind = subst (λ n. IsBehind next s.vote (moment next (s.vote.call.age + 1) n)) (sym mine.1)
        (subst (λ l. IsBehind next s.vote l) (sym (own-after ∙ ap (λ p. p.lists) s.comes.own))
        (behind-more w next s.vote s.place.lists new new-age (s.behind own-before)))

    behind : (v : Voted) → Contains w.votes v → (v.member ≡ s.member) ⊎ (v.member ≡ s.member → ⊥)
        → IsBehind next v (moment next (v.call.age + 1) v.member)
    behind v c (inr n) = subst (λ l. IsBehind next v l) (sym (elsewhere (v.call.age + 1) v.member n))
        (behind-more w next v _ new new-age (k.behind v c))
    behind v c (inl e) = by (k.holds.apart v s.vote c mine.0 (e ∙ sym mine.1))
      where
        by : (v ≡ s.vote) ⊎ (v.call.age < s.vote.call.age) ⊎ (s.vote.call.age < v.call.age)
            → IsBehind next v (moment next (v.call.age + 1) v.member)
        by (inl f) = subst (λ x. IsBehind next x (moment next (x.call.age + 1) x.member)) (sym f) own-behind
        by (inr (inl l)) = subst (λ x. IsBehind next v x)
            (sym (earlier (v.call.age + 1) v.member e (omega (arith, l))))
            (behind-more w next v _ new new-age (k.behind v c))
        by (inr (inr l)) = absurd (omega (arith, l, mine.2 v c e))

    last : (m : ℕ) (v : Voted) → (next.places m).tries ≡ Some v → (m ≡ s.member) ⊎ (m ≡ s.member → ⊥)
        → Contains next.votes v × (v.member ≡ m)
        × ((u : Voted) → Contains next.votes u → u.member ≡ m → u.call.age ≤ v.call.age)
    last m v t (inl e) =
        let f : s.vote ≡ v = same_Some _ _ (sym (ap (λ p. p.tries) s.comes.own ∙ s.still)
        ∙ subst (λ n. (next.places n).tries ≡ Some v) e t) in (
          subst (λ x. Contains next.votes x) f (new s.vote mine.0),
          ap (λ x. x.member) (sym f) ∙ mine.1 ∙ sym e,
          λ u c g. subst (λ x. u.call.age ≤ x.call.age) f (mine.2 u (old u c) (g ∙ e)),
        )
    last m v t (inr n) =
        let r = k.last m v (ap (λ p. p.tries) (sym (s.comes.others m n)) ∙ t) in
        (new v r.0, r.1, λ u c g. r.2 u (old u c) g)

rises : (o : Opening) (begun w next : Wire) → Keeps o begun w → Holds o next → Rises w next → Keeps o begun next
rises o begun w next k h s = gets o begun w next k h (record {
  member = s.member;
  vote = s.vote;
  tries = s.tries;
  place = _;
  still = refl;
  comes = s.comes;
  behind = λ b. record {
    keeps = b.keeps;
    voted = b.voted;
    how = ⊎_elim inl (λ t. inr (t.0, inr (s.opened, s.brought))) b.how;
  };
  given = s.given;
  votes = s.votes;
  ages = s.ages;
})

runs : (o : Opening) (begun w next : Wire) → Keeps o begun w → Holds o next → Runs w next → Keeps o begun next
runs o begun w next k h s = gets o begun w next k h (record {
  member = s.member;
  vote = s.vote;
  tries = s.tries;
  place = _;
  still = refl;
  comes = s.comes;
  behind = λ b. record { keeps = λ x c. s.keeps x (b.keeps x c); voted = s.keeps _ b.voted; how = inl s.runs };
  given = s.given;
  votes = s.votes;
  ages = s.ages;
})

begins : (o : Opening) (begun w next : Wire) → Keeps o begun w → Holds o next → Begins w next → Keeps o begun next
begins o begun w next k h s = quiet o begun w next k h (λ m. ap (λ p. p.lists) (s.places m)) s.votes
    (λ g c. subst (λ l. Contains l g) (sym s.given) c)
    (λ g i c d e f. k.one g i (old g c) (old i d) e f) (λ m v e. ap (λ p. p.tries) (sym (s.places m)) ∙ e)
    (λ c d. subst (λ l. Contains l c) (sym s.ages) (Contains-append_left _ _ c d))
    (λ c d. opened-more w next c (λ v e. subst (λ l. Contains l v) (sym s.votes) e)
    (⊎_elim (λ e. k.opens c e) (λ e. subst (λ x. IsOpened w x) e s.opened)
    (Contains-push_cases w.ages s.call c (subst (λ l. Contains l c) s.ages d))))
  where
    old : (g : Given) → Contains next.given g → Contains w.given g
    old g c = subst (λ l. Contains l g) s.given c

-- ---- all steps

keeps-next : (o : Opening) (begun w next : Wire) → Keeps o begun w → WireStep o w next → Keeps o begun next
keeps-next o begun w next k s = by s (holds-next o w next k.holds s)
  where
    by : WireStep o w next → Holds o next → Keeps o begun next
    by (inl t) h = hands-in o begun w next k h t
    by (inr (inl t)) h = votes o begun w next k h t
    by (inr (inr (inl t))) h = rises o begun w next k h t
    by (inr (inr (inr (inl t)))) h = leaves o begun w next k h t
    by (inr (inr (inr (inr (inl t))))) h = begins o begun w next k h t
    by (inr (inr (inr (inr (inr t))))) h = runs o begun w next k h t

pub keeps : (o : Opening) (begun : Wire) → IsNew begun → (before : List Wire) (w : Wire) → WireWay o begun before w
    → Keeps o begun w
keeps o begun new [] w way = record {
  holds = holds o begun new [] w way;
  cast = λ v c. absurd (none v (subst (λ l. Contains l v) (ap (λ x. x.votes) way ∙ new.votes) c));
  one = λ g h c d e f. absurd (none g (subst (λ l. Contains l g) (ap (λ x. x.given) way ∙ new.given) c));
  behind = λ v c. absurd (none v (subst (λ l. Contains l v) (ap (λ x. x.votes) way ∙ new.votes) c));
  first = λ m. ap (λ x. moment x 0 m) way ∙ ap (λ vs. stood vs 0 m (begun.places m).lists) new.votes
      ∙ at-none [] 0 m (begun.places m).lists (λ v c e. absurd (none v c));
  sorted = subst AreSorted (sym (ap (λ x. x.votes) way ∙ new.votes)) none-sorted;
  opens = λ c d. absurd (none c (subst (λ l. Contains l c) (ap (λ x. x.ages) way ∙ new.ages) d));
  last = λ m v e. absurd (none-some v (sym (ap (λ x. (x.places m).tries) way ∙ new.waits m) ∙ e));
}
  where
    none : {X : Type 0} (x : X) → Contains [] x → ⊥
    none x c = omega (arith, c.1)
keeps o begun new (x ∷ xs) w way = keeps-next o begun x w (keeps o begun new xs x way.0) way.1
