-- What a step of the wire leaves as it was.
use Rattle.std.proofs.Common.{◌≡◌, refl, ap, sym, ◌∙◌, ◌⊎◌, inl, inr, subst, ℕ, ◌+◌, ◌<◌, ◌≤◌, arith, [], ◌∷◌, Contains, Some, ⊎_elim}
use Rattle.std.proofs.lemmas.{Bool.cases_eq, List.Elements.{Contains-append_left, Contains-push, Contains-push_cases}}
use Rattle.dr_calls.specs.Wire.{Begins, Called, ComesTo, HandsIn, IsRunSince, Leaves, Place, Rises, Runs, Voted, Votes, Wire, WireStep, moment, stood, vote_of}
use Rattle.dr_calls.proofs.{Between.Keeps, Lasting.kept-of, Moments.{at-hit, at-miss, at-none, at-push, at-some}, Ordered.votes-above}
use Rattle.dr_history.specs.{declared.opening.Opening.Opening}

-- a member's vote for a call is among those that were cast
abbrev pub HasVoted : Wire → ℕ → Called → Type 0
HasVoted w k c = (v : Voted) × Contains w.votes v × (v.member ≡ k) × (v.call ≡ c)

-- nothing has gone, at most this member has changed, and what is new among the votes is its own, for an age above
pub record WireGoes (w next : Wire) (m : ℕ) : Type 0 where
  pub others : (k : ℕ) → (k ≡ m → ⊥) → next.places k ≡ w.places k
  pub given : (g : _) → Contains w.given g → Contains next.given g
  pub votes : (v : Voted) → Contains w.votes v → Contains next.votes v
  pub ages : (c : Called) → Contains w.ages c → Contains next.ages c
  pub born : (v : Voted) → Contains next.votes v → Contains w.votes v
      ⊎ ((v.member ≡ m) × ((u : Voted) → Contains w.votes u → u.member ≡ m → u.call.age < v.call.age))
  pub moments : (a k : ℕ) → (k ≡ m → ⊥) → moment next a k ≡ moment w a k

pub wire-stays : (w : Wire) (m : ℕ) → WireGoes w w m
wire-stays w m = record {
  others = λ k n. refl;
  given = λ g c. c;
  votes = λ v c. c;
  ages = λ c d. d;
  born = λ v c. inl c;
  moments = λ a k n. refl;
}

-- a run goes on by a step
pub run-on : (o : Opening) (begun w next : Wire) → IsRunSince o begun w → WireStep o w next → IsRunSince o begun next
run-on o begun w next run step = (run.0, (w ∷ run.1.0, (run.1.1, step)))

-- ---- steps that change no log

-- each moment is as before, where no vote is new and no log changes
same-moments : (w next : Wire) → next.votes ≡ w.votes → ((k : ℕ) → (next.places k).lists ≡ (w.places k).lists)
    → (a k : ℕ) → moment next a k ≡ moment w a k
same-moments w next votes same a k = ap (λ vs. stood vs a k (next.places k).lists) votes
    ∙ ap (stood w.votes a k) (same k)

lists-still : (w next : Wire) (m : ℕ) (p : Place) → ComesTo w m p next → p.lists ≡ (w.places m).lists → (k : ℕ)
    → (next.places k).lists ≡ (w.places k).lists
lists-still w next m p comes same k = by (cases_eq k m)
  where
    by : (k ≡ m) ⊎ (k ≡ m → ⊥) → (next.places k).lists ≡ (w.places k).lists
    by (inl e) = subst (λ n. (next.places n).lists ≡ (w.places n).lists) (sym e) (ap (λ q. q.lists) comes.own ∙ same)
    by (inr n) = ap (λ q. q.lists) (comes.others k n)

-- as they are where nothing is new but what is handed in
pub record IsQuiet (w next : Wire) (m : ℕ) : Type 0 where
  pub goes : WireGoes w next m
  pub still : (a k : ℕ) → moment next a k ≡ moment w a k
  pub votes : next.votes ≡ w.votes

pub hands-in-goes : (w next : Wire) (s : HandsIn w next) → IsQuiet w next s.member
hands-in-goes w next s = record {
  goes = record {
    others = s.comes.others;
    given = λ g c. subst (λ l. Contains l g) (sym s.given) (Contains-append_left _ _ g c);
    votes = λ v c. subst (λ l. Contains l v) (sym s.votes) c;
    ages = λ c d. subst (λ l. Contains l c) (sym s.ages) d;
    born = λ v c. inl (subst (λ l. Contains l v) s.votes c);
    moments = λ a k n. still a k;
  };
  still = still;
  votes = s.votes;
}
  where
    still : (a k : ℕ) → moment next a k ≡ moment w a k
    still = same-moments w next s.votes (lists-still w next s.member _ s.comes refl)

pub leaves-goes : (w next : Wire) (s : Leaves w next) → IsQuiet w next s.member
leaves-goes w next s = record {
  goes = record {
    others = s.comes.others;
    given = λ g c. subst (λ l. Contains l g) (sym s.given) c;
    votes = λ v c. subst (λ l. Contains l v) (sym s.votes) c;
    ages = λ c d. subst (λ l. Contains l c) (sym s.ages) d;
    born = λ v c. inl (subst (λ l. Contains l v) s.votes c);
    moments = λ a k n. still a k;
  };
  still = still;
  votes = s.votes;
}
  where
    still : (a k : ℕ) → moment next a k ≡ moment w a k
    still = same-moments w next s.votes (lists-still w next s.member _ s.comes refl)

pub begins-goes : (w next : Wire) (m : ℕ) (s : Begins w next) → IsQuiet w next m
begins-goes w next m s = record {
  goes = record {
    others = λ k n. s.places k;
    given = λ g c. subst (λ l. Contains l g) (sym s.given) c;
    votes = λ v c. subst (λ l. Contains l v) (sym s.votes) c;
    ages = λ c d. subst (λ l. Contains l c) (sym s.ages) (Contains-append_left _ _ c d);
    born = λ v c. inl (subst (λ l. Contains l v) s.votes c);
    moments = λ a k n. still a k;
  };
  still = still;
  votes = s.votes;
}
  where
    still : (a k : ℕ) → moment next a k ≡ moment w a k
    still = same-moments w next s.votes (λ k. ap (λ p. p.lists) (s.places k))

-- two such steps, one behind the other
pub quiet-both : (w x next : Wire) (m : ℕ) → IsQuiet w x m → IsQuiet x next m → IsQuiet w next m
quiet-both w x next m p q = record {
  goes = record {
    others = λ k n. q.goes.others k n ∙ p.goes.others k n;
    given = λ g c. q.goes.given g (p.goes.given g c);
    votes = λ v c. q.goes.votes v (p.goes.votes v c);
    ages = λ c d. q.goes.ages c (p.goes.ages c d);
    born = λ v c. inl (subst (λ l. Contains l v) (q.votes ∙ p.votes) c);
    moments = λ a k n. q.still a k ∙ p.still a k;
  };
  still = λ a k. q.still a k ∙ p.still a k;
  votes = q.votes ∙ p.votes;
}

-- ---- a vote

pub record IsVote (w next : Wire) (m : ℕ) (vote : Voted) : Type 0 where
  pub goes : WireGoes w next m
  pub own : Contains next.votes vote
  -- behind an age for which the member had voted nothing changes
  pub still : (u : Voted) → Contains w.votes u → u.member ≡ m
      → moment next (u.call.age + 1) m ≡ moment w (u.call.age + 1) m
  pub above : (u : Voted) → Contains w.votes u → u.member ≡ m → u.call.age < vote.call.age
  -- what is new is this vote
  pub one : (v : Voted) → Contains next.votes v → Contains w.votes v ⊎ (vote ≡ v)

pub votes-goes : (o : Opening) (begun w next : Wire) → IsRunSince o begun w → (s : Votes o w next)
    → IsVote w next s.member (vote_of w s.member s.call s.logs s.start)
votes-goes o begun w next run s = record {
  goes = record {
    others = s.comes.others;
    given = λ g c. subst (λ l. Contains l g) (sym s.stays) c;
    votes = λ v c. subst (λ l. Contains l v) (sym s.votes) (Contains-append_left _ _ v c);
    ages = λ c d. subst (λ l. Contains l c) (sym s.ages) d;
    born = λ v c. ⊎_elim inl (λ e. inr (
      ap (λ x. x.member) (sym e),
      λ u d f. subst (λ x. u.call.age < x.call.age) e (above u d f),
    )) (one v c);
    moments = λ a k n. same a k (λ e. absurd (n (sym e)));
  };
  own = subst (λ l. Contains l vote) (sym s.votes) (Contains-push _ _);
  still = λ u c e. same (u.call.age + 1) s.member (λ f. omega (arith, above u c e));
  above = above;
  one = one;
}
  where
    vote : Voted
    vote = vote_of w s.member s.call s.logs s.start

    above : (u : Voted) → Contains w.votes u → u.member ≡ s.member → u.call.age < s.call.age
    above u c e = votes-above o w next (kept-of o begun w run).holds s u c e

    one : (v : Voted) → Contains next.votes v → Contains w.votes v ⊎ (vote ≡ v)
    one v c = Contains-push_cases w.votes vote v (subst (λ l. Contains l v) s.votes c)

    same : (a k : ℕ) → (s.member ≡ k → a ≤ s.call.age) → moment next a k ≡ moment w a k
    same a k l = ap (λ vs. stood vs a k (next.places k).lists) s.votes
        ∙ at-push w.votes vote a k (next.places k).lists ∙ ap (stood w.votes a k) (by (cases_eq s.member k))
      where
        by : (s.member ≡ k) ⊎ (s.member ≡ k → ⊥) → stood (vote ∷ []) a k (next.places k).lists ≡ (w.places k).lists
        by (inl e) = at-hit vote a k (next.places k).lists e (l e) ∙ ap (λ n. (w.places n).lists) e
        by (inr n) = at-miss vote a k (next.places k).lists (λ e. absurd (n e))
            ∙ ap (λ p. p.lists) (s.comes.others k (λ e. n (sym e)))

-- ---- a log that gets longer

-- what stands behind the last vote of a member stands there now
pub moment-now : (o : Opening) (begun w : Wire) → IsRunSince o begun w → (m : ℕ) (v : Voted)
    → (w.places m).tries ≡ Some v → moment w (v.call.age + 1) m ≡ (w.places m).lists
moment-now o begun w run m v tries =
    let last = (kept-of o begun w run).last m v tries in
    at-none w.votes (v.call.age + 1) m (w.places m).lists (λ u c e. omega (arith, last.2 u c e))

pub record IsLonger (w next : Wire) (m : ℕ) (vote : Voted) : Type 0 where
  pub goes : WireGoes w next m
  pub votes : next.votes ≡ w.votes
  -- behind an earlier vote of the member nothing changes
  pub still : (u : Voted) → Contains w.votes u → u.member ≡ m → (u.call ≡ vote.call)
      ⊎ (moment next (u.call.age + 1) m ≡ moment w (u.call.age + 1) m)

longer : (o : Opening) (begun w next : Wire) (m : ℕ) (p : Place) (vote : Voted) → IsRunSince o begun w
    → ComesTo w m p next → (w.places m).tries ≡ Some vote → next.given ≡ w.given → next.votes ≡ w.votes
    → next.ages ≡ w.ages → IsLonger w next m vote
longer o begun w next m p vote run comes tries given votes ages = record {
  goes = record {
    others = comes.others;
    given = λ g c. subst (λ l. Contains l g) (sym given) c;
    votes = λ v c. subst (λ l. Contains l v) (sym votes) c;
    ages = λ c d. subst (λ l. Contains l c) (sym ages) d;
    born = λ v c. inl (subst (λ l. Contains l v) votes c);
    moments = λ a k n. ap (λ vs. stood vs a k (next.places k).lists) votes
        ∙ ap (λ q. stood w.votes a k q.lists) (comes.others k n);
  };
  votes = votes;
  still = λ u c e. by u e (keeps.holds.apart u vote c last.0 (e ∙ sym last.1)) (last.2 u c e);
}
  where
    keeps : Keeps o begun w
    keeps = kept-of o begun w run

    last : Contains w.votes vote × (vote.member ≡ m)
        × ((u : Voted) → Contains w.votes u → u.member ≡ m → u.call.age ≤ vote.call.age)
    last = keeps.last m vote tries

    by : (u : Voted) → u.member ≡ m → (u ≡ vote) ⊎ (u.call.age < vote.call.age) ⊎ (vote.call.age < u.call.age)
        → u.call.age ≤ vote.call.age
        → (u.call ≡ vote.call) ⊎ (moment next (u.call.age + 1) m ≡ moment w (u.call.age + 1) m)
    by u e (inl f) l = inl (ap (λ x. x.call) f)
    by u e (inr (inl f)) l = inr (ap (λ vs. stood vs (u.call.age + 1) m (next.places m).lists) votes
        ∙ at-some w.votes (u.call.age + 1) m vote last.0 last.1 (omega (arith, f)) (next.places m).lists
        (w.places m).lists)
    by u e (inr (inr f)) l = absurd (omega (arith, f, l))

pub rises-goes : (o : Opening) (begun w next : Wire) → IsRunSince o begun w → (s : Rises w next)
    → IsLonger w next s.member s.vote
rises-goes o begun w next run s = longer o begun w next s.member _ s.vote run s.comes s.tries s.given s.votes s.ages

pub runs-goes : (o : Opening) (begun w next : Wire) → IsRunSince o begun w → (s : Runs w next)
    → IsLonger w next s.member s.vote
runs-goes o begun w next run s = longer o begun w next s.member _ s.vote run s.comes s.tries s.given s.votes s.ages
