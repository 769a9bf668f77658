-- An append is on the log of a seat.
use Rattle.std.proofs.Common.{◌≡◌, refl, ap, sym, ◌∙◌, ◌⊎◌, inl, inr, subst, ℕ, ◌<◌, ◌≤◌, arith, true, false, List, [], ◌∷◌, ◌++◌, Contains, Option, None, Some, ⊎_elim}
use Rattle.std.proofs.lemmas.{Bool.cases_eq, List.Elements.{Contains-append_left, Contains-push, Contains-push_cases}, Option.{none-some, same_Some}}
use Rattle.dr_calls.specs.Wire.{Called, Voted}
use Rattle.dr_door.specs.Lone.{went_on}
use Rattle.dr_history.specs.{Members.has}
use Rattle.dr_program.specs.{Presence.present_at}
use Rattle.dr_restart.specs.Trying.{first_view_of}
use Rattle.dr_words.{specs.Masks.with_member, proofs.Masks.has-old}
use Rattle.dr_seat_laws.specs.Seats.{Seats}
use Rattle.dr_seat_laws.specs.Sitting.{Cuts, Gathered, HasGrown, InAge, Rises, Settles, Sitting, Step, Synced, Trying, Up, Voted as HasTheVote, Votes as Casting, Written, settled_age, settled_by, settled_try}
use Rattle.dr_seat_laws.proofs.{Appending.no-age, Coming.{grown-front, voted-place}, Putting.put-own}
use Rattle.dr_seat_laws.proofs.Fresh.{Plan, fresh}
use Rattle.dr_seat_laws.proofs.Growing.{Goes, hand-on, handed-on, holds-on, log-grows, ran-sent, told-on}
use Rattle.dr_seat_laws.proofs.Holding.{Ghost, HasRisen, HaveTold, Holds, IsDue, IsIdle, IsRunning, IsServed, IsTrying, IsUp, RiseDue, Risen, RunDue, Sits, VoteDue, called, opening_of}
use Rattle.dr_seat_laws.proofs.Settling.{Comes, IsComing, after-left, after-rise, after-run, after-vote, door-run, is-vote, keeps, left-comes, mine-run, rise-comes, run-comes, same-vote, served-run, tries-raised, tries-run, up-raised, vote-cast, vote-comes}
use Rattle.dr_seat_laws.proofs.Touching.{touched-out}
use Rattle.dr_seat_laws.proofs.Wires.{HasVoted, IsVote}

-- what a step gives
abbrev pub GoesOn : Plan → Seats → Seats → Seats → Ghost → ℕ → Type 0
GoesOn p new s next g m = (h : Ghost) × Goes p s next g h m × Holds p new next h

none-of : (o : Option ℕ) → ((n : ℕ) → o ≡ Some n → ⊥) → o ≡ None
none-of None never = refl
none-of (Some n) never = absurd (never n refl)

-- ---- a seat that asks no more of it

-- it has its log and what it has of others', and nothing else
abbrev quit-of : Written → (ℕ → Gathered) → Sitting
quit-of log hands = record {
  log = log;
  coming = None;
  opens = false;
  handed = None;
  hands = hands;
  try = None;
  age = None;
}

-- what comes of the wire leaves the doors of the member as they are
record ComesSo (p : Plan) (new s next : Seats) (g : Ghost) (m : ℕ) (log : Written) : Type 0 where
  h : Ghost
  comes : Comes p new s next g h m log
  ups : h.ups ≡ g.ups
  same : (v : Voted) → Contains g.wire.votes v → present_at (h.apart v).doors m ≡ present_at (g.apart v).doors m

comes-so : (p : Plan) (new s next : Seats) (g : Ghost) (m : ℕ) (log : Written) → IsComing p new s next g m log
    → IsDue (opening_of p) g m (s.seats m).log.content (s.seats m).try (s.seats m).age log
    → ComesSo p new s next g m log
comes-so p new s next g m log k (inl x) = record {
  h = after-vote p new s next g m log k x;
  comes = vote-comes p new s next g m log k x;
  ups = refl;
  same = λ v c. ap (λ a. present_at a.doors m) (same-vote p new s next g m log k x v c);
}
comes-so p new s next g m log k (inr (inl x)) = record {
  h = after-rise p new s next g m log k x g.ups;
  comes = rise-comes p new s next g m log k x g.ups (λ y c. c) (λ j c up. inl up);
  ups = refl;
  same = λ v c. refl;
}
comes-so p new s next g m log k (inr (inr x)) = record {
  h = after-left p new s next g m log k x;
  comes = left-comes p new s next g m log k x;
  ups = refl;
  same = λ v c. refl;
}

quits : (p : Plan) (new s next : Seats) (g : Ghost) (m : ℕ) (log : Written) → IsComing p new s next g m log
    → ComesSo p new s next g m log → next.seats m ≡ quit-of log (s.seats m).hands → next.sent ≡ s.sent
    → GoesOn p new s next g m
quits p new s next g m log k c made sent = (
  c.h,
  c.comes.go,
  holds-on p new s next g c.h m k.holds c.comes.go c.comes.run
      (record {
        sits = subst (λ y. Sits p next.seats c.h m y) (sym made) (record {
          stands = k.grown.stands;
          lists = c.comes.lists;
          long = c.comes.long;
          hands = λ j. hand-on g.wire c.h.wire (s.seats j).log (next.seats j).log j ((s.seats m).hands j)
              c.comes.go.wire.given (log-grows p new s next g c.h m c.comes.go k.holds.run c.comes.run j)
              ((k.holds.sits m).hands j);
          handed = λ n e. absurd (none-some n e);
          gathers = λ n rest e none. absurd (none-some n e);
          tries = λ t rest e none. absurd (none-some t e);
          runs = λ a e. absurd (none-some a e);
          told = λ t e. absurd (none-some t e);
          due = λ written e. absurd (none-some written e);
          left = λ written n e none f. none-some n f;
          opens = λ e. (refl, refl, refl);
        });
        ages = λ y d. inl (subst (λ l. Contains l y) c.comes.ages d);
        ups = λ j y up. inl (subst (λ l. Contains l (record { member = j; call = y })) c.ups up);
        idle = λ v d i. c.same v d ∙ k.holds.idle v m d (was v.call i);
        sent = sent;
      }),
)
  where
    was : (y : Called) → IsIdle next c.h y m → IsIdle s g y m
    was y (inl none) = inl (λ u d e f. none u (c.comes.go.wire.votes u d) e f)
    was y (inr r) = absurd (none-some r.1.0 (ap (λ x. x.try) (sym made) ∙ r.1.1))

-- ---- the first sync

pub synced-new : (p : Plan) (new s next : Seats) (g : Ghost) (m : ℕ) → Holds p new s g
    → ((k : ℕ) → (k ≡ m → ⊥) → next.seats k ≡ s.seats k) → next.sent ≡ s.sent
    → (x : Synced (s.seats m) (next.seats m)) → (s.seats m).coming ≡ Some x.log → GoesOn p new s next g m
synced-new p new s next g m holds others sent x coming =
    quits p new s next g m x.log k (comes-so p new s next g m x.log k d.1) (x.made ∙ (λ z. record {
      log = x.log;
      coming = None;
      opens = false;
      handed = closed.2 z;
      hands = (s.seats m).hands;
      try = closed.0 z;
      age = closed.1 z;
    })) sent
  where
    o : Sits p s.seats g m (s.seats m)
    o = holds.sits m

    d : HasGrown (s.seats m).log x.log
        × IsDue (opening_of p) g m (s.seats m).log.content (s.seats m).try (s.seats m).age x.log
    d = o.due x.log coming

    k : IsComing p new s next g m x.log
    k = record { holds = holds; others = others; grown = d.0; is = ap (λ y. y.log) x.made }

    closed : ((s.seats m).try ≡ None) × ((s.seats m).age ≡ None) × ((s.seats m).handed ≡ None)
    closed = o.opens x.opens

-- ---- the calls of an append are answered

module _ (p : Plan) (new s next : Seats) (g : Ghost) (m : ℕ) (log : Written) (k : IsComing p new s next g m log)
    (coming : (s.seats m).coming ≡ Some log) (runs : (s.seats m).opens ≡ false) (sent : next.sent ≡ s.sent) where
  -- a seat whose log has this now, and which is in a try
  abbrev settled-to : Trying → Option InAge → Sitting
  settled-to u age = record (s.seats m) { log = log; coming = None; try = Some u; age = age }

  -- what is the same of each such seat
  module _ (h : Ghost) (comes : Comes p new s next g h m log) (u : Trying) (age : Option InAge)
      (made : next.seats m ≡ settled-to u age) where
    settled-sits : HaveTold h u → (age ≡ None → IsTrying h m log.content u)
        → ((a : InAge) → age ≡ Some a → IsRunning h m log.content u a)
        → Sits p next.seats h m (next.seats m)
    settled-sits told tries running = subst (λ y. Sits p next.seats h m y) (sym made) (record {
      stands = k.grown.stands;
      lists = comes.lists;
      long = comes.long;
      hands = λ j. hand-on g.wire h.wire (s.seats j).log (next.seats j).log j ((s.seats m).hands j)
          comes.go.wire.given (log-grows p new s next g h m comes.go k.holds.run comes.run j)
          ((k.holds.sits m).hands j);
      handed = λ n e. let b = (k.holds.sits m).handed n e in (
        b.0,
        handed-on g.wire h.wire (s.seats m).log log m n b.0
            comes.go.wire.given (grown-front (s.seats m).log log k.grown) b.1,
      );
      gathers = λ n rest e none. absurd (none-some u (sym none));
      tries = λ t rest e none. subst (λ y. IsTrying h m log.content y) (same_Some u t e) (tries none);
      runs = λ a e. (u, refl, running a e);
      told = λ t e. subst (λ y. HaveTold h y) (same_Some u t e) told;
      due = λ written e. absurd (none-some written e);
      left = λ written n e none f. none-some written e;
      opens = λ e. absurd (cc (runs, e));
    })

  -- what it knew it knows
  told-before : (h : Ghost) → Comes p new s next g h m log → (t : Trying) → (s.seats m).try ≡ Some t → HaveTold h t
  told-before h comes t e = told-on p new s next g h m comes.go k.holds.run comes.run t ((k.holds.sits m).told t e)

  -- its own vote is counted
  told-voted : (h : Ghost) (t u : Trying) → HaveTold h t → u.call ≡ t.call → u.up ≡ t.up
      → u.voted ≡ with_member t.voted m → HasVoted h.wire m (called t.call) → HaveTold h u
  told-voted h t u told call up voted mine = record {
    voted = λ j e. subst (λ c. HasVoted h.wire j (called c)) (sym call)
        (by j (subst (λ n. has n j ≡ true) voted e) (cases_eq j m));
    up = λ j e. subst (λ c. HasRisen h j (called c)) (sym call) (told.up j (subst (λ n. has n j ≡ true) up e));
  }
    where
      by : (j : ℕ) → has (with_member t.voted m) j ≡ true → (j ≡ m) ⊎ (j ≡ m → ⊥) → HasVoted h.wire j (called t.call)
      by j e (inl f) = subst (λ n. HasVoted h.wire n (called t.call)) (sym f) mine
      by j e (inr n) = told.voted j (has-old t.voted m j n e)

  -- a seat in the try was in it before
  idle-before : (h : Ghost) → Comes p new s next g h m log → (t u : Trying) → (s.seats m).try ≡ Some t
      → (s.seats m).age ≡ None → u.call ≡ t.call → (age : Option InAge) → next.seats m ≡ settled-to u age
      → (c : Called) → IsIdle next h c m → IsIdle s g c m
  idle-before h comes t u tries none call age made c (inl never) =
      inl (λ v d e f. never v (comes.go.wire.votes v d) e f)
  idle-before h comes t u tries none call age made c (inr r) = inr (
    none,
    (
      t,
      tries,
      ap called (sym call) ∙ ap (λ y. called y.call) (same_Some u r.1.0 (ap (λ x. x.try) (sym made) ∙ r.1.1)) ∙ r.1.2,
    ),
  )

  -- ---- a vote

  settles-vote : (x : VoteDue (opening_of p) g m (s.seats m).log.content (s.seats m).try (s.seats m).age log)
      → (t : Trying) → (s.seats m).try ≡ Some t
      → next.seats m ≡ settled-to (record t { step = HasTheVote; voted = with_member t.voted m }) None
      → GoesOn p new s next g m
  settles-vote x t tries made = (
    h,
    comes.go,
    holds-on p new s next g h m k.holds comes.go comes.run (record {
      sits = settled-sits h comes u None made
          (told-voted h t u (told-before h comes t tries) refl refl refl (vote, is.own, refl, same.0))
          (λ e. trying) (λ a e. absurd (none-some a e));
      ages = λ y d. inl d;
      ups = λ j y up. inl up;
      idle = λ v d i. ap (λ a. present_at a.doors m) (same-vote p new s next g m log k x v d)
          ∙ k.holds.idle v m d (idle-before h comes t u tries x.no_age refl None made v.call i);
      sent = sent;
    }),
  )
    where
      u : Trying
      u = record t { step = HasTheVote; voted = with_member t.voted m }

      h : Ghost
      h = after-vote p new s next g m log k x

      vote : Voted
      vote = vote-cast p new s next g m log k x

      comes : Comes p new s next g h m log
      comes = vote-comes p new s next g m log k x

      is : IsVote g.wire h.wire m vote
      is = is-vote p new s next g m log k x

      same : (x.call ≡ called t.call) × (x.start ≡ t.start) × (t.step ≡ Casting)
      same = x.same t tries

      never : HasRisen h m vote.call → ⊥
      never up =
          let y = k.holds.ups m vote.call up in
          let v = y.opened m y.inside in omega (arith, is.above v.0 v.1 v.2, ap (λ c. c.age) v.3)

      trying : IsTrying h m log.content u
      trying = record {
        vote = vote;
        tries = ap (λ q. q.tries) (put-own g.wire.places m (voted-place (opening_of p) g m (s.seats m).log.content
            (s.seats m).try (s.seats m).age log x));
        call = same.0;
        start = same.1;
        votes = ap (λ l. l.votes) x.content ∙ ap (λ l. l.votes) (sym (k.holds.sits m).lists);
        entries = inl (ap (λ l. l.entries) x.content ∙ ap (λ l. l.entries) (sym (k.holds.sits m).lists));
        step = inl (refl, never);
      }

  -- ---- a cut, or the start

  settles-cut : (x : RiseDue g m (s.seats m).log.content (s.seats m).try (s.seats m).age log) → (t : Trying)
      → (s.seats m).try ≡ Some t → next.seats m ≡ settled-to (record t { step = HasTheVote }) None
      → GoesOn p new s next g m
  settles-cut x t tries made = (
    h,
    comes.go,
    holds-on p new s next g h m k.holds comes.go comes.run (record {
      sits = settled-sits h comes u None made (record { voted = told.voted; up = told.up }) (λ e. record {
        vote = x.vote;
        tries = tries-raised p new s next g m log k x;
        call = same.0;
        start = same.1;
        votes = x.votes;
        entries = x.entries;
        step = inl (refl, x.below);
      }) (λ a e. absurd (none-some a e));
      ages = λ y d. inl d;
      ups = λ j y up. inl up;
      idle = λ v d i. k.holds.idle v m d (idle-before h comes t u tries x.no_age refl None made v.call i);
      sent = sent;
    }),
  )
    where
      u : Trying
      u = record t { step = HasTheVote }

      h : Ghost
      h = after-rise p new s next g m log k x g.ups

      comes : Comes p new s next g h m log
      comes = rise-comes p new s next g m log k x g.ups (λ y c. c) (λ j c up. inl up)

      told : HaveTold h t
      told = told-before h comes t tries

      same : (x.vote.call ≡ called t.call) × (x.vote.start ≡ t.start) × ((t.step ≡ Cuts) ⊎ ((t.step ≡ Rises)
          × (log.content.entries ≡ x.vote.start.entries ++ first_view_of x.vote.start ∷ [])))
      same = x.same t tries

  settles-start : (x : RiseDue g m (s.seats m).log.content (s.seats m).try (s.seats m).age log) → (t : Trying)
      → (s.seats m).try ≡ Some t
      → log.content.entries ≡ x.vote.start.entries ++ first_view_of x.vote.start ∷ [] → m < p.script.members
      → next.seats m ≡ settled-to
      (record t { step = Up; voted = with_member t.voted m; up = with_member t.up m }) None
      → GoesOn p new s next g m
  settles-start x t tries entries within made = (
    h,
    comes.go,
    holds-on p new s next g h m k.holds comes.go comes.run (record {
      sits = settled-sits h comes u None made (record { voted = voted.voted; up = λ j e. up j e (cases_eq j m) })
          (λ e. record {
            vote = x.vote;
            tries = tries-raised p new s next g m log k x;
            call = same.0;
            start = same.1;
            votes = x.votes;
            entries = x.entries;
            step = inr (refl, Contains-push _ _, entries);
          }) (λ a e. absurd (none-some a e));
      ages = λ y d. inl d;
      ups = λ j y r. ⊎_elim inl (λ e. inr (subst (λ z. IsUp h z.member z.call) e
          (up-raised p new s next g m log k x ups within t tries same.0 entries)))
          (Contains-push_cases g.ups this _ r);
      idle = λ v d i. k.holds.idle v m d (idle-before h comes t u tries x.no_age refl None made v.call i);
      sent = sent;
    }),
  )
    where
      this : Risen
      this = record { member = m; call = x.vote.call }

      ups : List Risen
      ups = g.ups ++ this ∷ []

      u : Trying
      u = record t { step = Up; voted = with_member t.voted m; up = with_member t.up m }

      h : Ghost
      h = after-rise p new s next g m log k x ups

      comes : Comes p new s next g h m log
      comes = rise-comes p new s next g m log k x ups (λ y c. Contains-append_left _ _ y c)
          (λ j c r. ⊎_elim inl (λ e. inr (ap (λ z. z.member) (sym e))) (Contains-push_cases g.ups this _ r))

      told : HaveTold h t
      told = told-before h comes t tries

      same : (x.vote.call ≡ called t.call) × (x.vote.start ≡ t.start) × ((t.step ≡ Cuts) ⊎ ((t.step ≡ Rises)
          × (log.content.entries ≡ x.vote.start.entries ++ first_view_of x.vote.start ∷ [])))
      same = x.same t tries

      last : Contains g.wire.votes x.vote × (x.vote.member ≡ m)
          × ((v : Voted) → Contains g.wire.votes v → v.member ≡ m → v.call.age ≤ x.vote.call.age)
      last = (keeps p new s next g m log k).last m x.vote x.tries

      voted : HaveTold h (record t { voted = with_member t.voted m })
      voted = told-voted h t (record t { voted = with_member t.voted m }) told refl refl refl
          (x.vote, last.0, last.1, same.0)

      up : (j : ℕ) → has (with_member t.up m) j ≡ true → (j ≡ m) ⊎ (j ≡ m → ⊥) → HasRisen h j (called t.call)
      up j e (inl f) = subst (λ n. HasRisen h n (called t.call)) (sym f)
          (subst (λ c. HasRisen h m c) same.0 (Contains-push _ _))
      up j e (inr n) = told.up j (has-old t.up m j n e)

  -- ---- what its member appends

  settles-run : (x : RunDue g m (s.seats m).log.content (s.seats m).try (s.seats m).age log) → (t : Trying)
      → (a : InAge)
      → (s.seats m).try ≡ Some t → (s.seats m).age ≡ Some a → IsRunning g m (s.seats m).log.content t a
      → next.seats m ≡ settled-to t (Some (record { door = went_on a.door; batch = a.batch }))
      → GoesOn p new s next g m
  settles-run x t a tries age r made = (
    h,
    comes.go,
    holds-on p new s next g h m k.holds comes.go comes.run (record {
      sits = settled-sits h comes t (Some b) made (told-before h comes t tries) (λ e. absurd (none-some b (sym e)))
          (λ y e. subst (λ z. IsRunning h m log.content t z) (same_Some b y e) running);
      ages = λ y d. inl d;
      ups = λ j y up. inl up;
      idle = λ v d i. idle v d i;
      sent = sent;
    }),
  )
    where
      b : InAge
      b = record { door = went_on a.door; batch = a.batch }

      h : Ghost
      h = after-run p new s next g m log k x

      comes : Comes p new s next g h m log
      comes = run-comes p new s next g m log k x

      mine : Contains g.wire.votes x.vote
      mine = mine-run p new s next g m log k x

      vote : x.vote ≡ r.vote
      vote = same_Some _ _ (sym x.tries ∙ r.tries)

      door : x.door ≡ a.door
      door = same_Some _ _ (sym (x.there x.vote mine refl) ∙ r.door x.vote mine (ap (λ v. v.call) vote))

      running : IsRunning h m log.content t b
      running = record {
        vote = x.vote;
        tries = tries-run p new s next g m log k x;
        call = ap (λ v. v.call) vote ∙ r.call;
        start = ap (λ v. v.start) vote ∙ r.start;
        step = r.step;
        began = x.began;
        door = λ v c e. door-run p new s next g m log k x v c e ∙ ap (λ d. Some (went_on d)) door;
        batch = λ v c e y d. ran-sent (g.apart v) (h.apart v) y (comes.go.ran v c)
            (r.batch v c (e ∙ ap (λ v. v.call) vote) y d);
        served = subst (λ d. IsServed x.vote.start.age (went_on d) log.content) door
            (served-run p new s next g m log k x x.vote refl);
      }

      idle : (v : Voted) → Contains g.wire.votes v → IsIdle next h v.call m
          → present_at (h.apart v).doors m ≡ present_at (fresh p v.start).doors m
      idle v d (inr i) = absurd (none-some b (sym (ap (λ y. y.age) (sym made) ∙ i.0)))
      idle v d (inl never) = ap (λ c. present_at c.doors m) (touched-out x.vote.call _ g.apart v
          (λ e. never x.vote mine ((keeps p new s next g m log k).last m x.vote x.tries).1 (sym e)))
          ∙ k.holds.idle v m d (inl (λ u c e f. never u c e f))

pub settles : (p : Plan) (new s next : Seats) (g : Ghost) (m : ℕ) → Holds p new s g
    → ((k : ℕ) → (k ≡ m → ⊥) → next.seats k ≡ s.seats k) → next.sent ≡ s.sent → m < p.script.members
    → Settles m (s.seats m) (next.seats m) → GoesOn p new s next g m
settles p new s next g m holds others sent within x = by (s.seats m).try refl
  where
    o : Sits p s.seats g m (s.seats m)
    o = holds.sits m

    d : HasGrown (s.seats m).log x.next
        × IsDue (opening_of p) g m (s.seats m).log.content (s.seats m).try (s.seats m).age x.next
    d = o.due x.next x.coming

    k : IsComing p new s next g m x.next
    k = record { holds = holds; others = others; grown = d.0; is = ap (λ y. y.log) x.made }

    -- without an age
    no-member : (try : Option Trying) → (s.seats m).try ≡ try → (s.seats m).age ≡ None
        → next.seats m ≡ record (s.seats m) { log = x.next; coming = None; try = settled_try m None try; age = None }
    no-member try e none = x.made ∙ (λ z. record (s.seats m) {
      log = x.next;
      coming = None;
      try = settled_try m (none z) (e z);
      age = settled_age (none z);
    })

    at-step : (t : Trying) → (s.seats m).try ≡ Some t → (s.seats m).age ≡ None → (step : Step) → t.step ≡ step
        → next.seats m ≡ record (s.seats m) {
          log = x.next;
          coming = None;
          try = Some (settled_by m t step);
          age = None;
        }
    at-step t e none step f = no-member (Some t) e none ∙ (λ z. record (s.seats m) {
      log = x.next;
      coming = None;
      try = Some (settled_by m t (f z));
      age = None;
    })

    tried : (t : Trying) → (s.seats m).try ≡ Some t
        → IsDue (opening_of p) g m (s.seats m).log.content (s.seats m).try (s.seats m).age x.next
        → GoesOn p new s next g m
    tried t e (inl y) = settles-vote p new s next g m x.next k x.coming x.runs sent y t e
        (at-step t e y.no_age Casting (y.same t e).2)
    tried t e (inr (inl y)) = ⊎_elim
        (λ f. settles-cut p new s next g m x.next k x.coming x.runs sent y t e (at-step t e y.no_age Cuts f))
        (λ r. settles-start p new s next g m x.next k x.coming x.runs sent y t e r.1 within
        (at-step t e y.no_age Rises r.0)) (y.same t e).2
    tried t e (inr (inr y)) =
        let a = y.runs t e in
        let r = o.runs a.0 a.1 in
        let f : r.0 ≡ t = same_Some _ _ (sym r.1 ∙ e) in
        settles-run p new s next g m x.next k x.coming x.runs sent y t a.0 e a.1
        (subst (λ z. IsRunning g m (s.seats m).log.content z a.0) f r.2) (x.made ∙ (λ z. record (s.seats m) {
          log = x.next;
          coming = None;
          try = settled_try m (a.1 z) (e z);
          age = settled_age (a.1 z);
        }))

    by : (try : Option Trying) → (s.seats m).try ≡ try → GoesOn p new s next g m
    by None e =
        let none = no-age p s.seats g m (s.seats m) o e (s.seats m).age refl in
        let quiet = none-of (s.seats m).handed (λ n f. o.left x.next n x.coming e f) in
        quits p new s next g m x.next k (comes-so p new s next g m x.next k d.1)
        (no-member None e none ∙ (λ z. record {
          log = x.next;
          coming = None;
          opens = x.runs z;
          handed = quiet z;
          hands = (s.seats m).hands;
          try = None;
          age = None;
        })) sent
    by (Some t) e = tried t e d.1
