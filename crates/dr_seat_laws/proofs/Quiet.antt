-- What a seat does by which nothing comes to its log, and no door goes on.
use Rattle.std.proofs.Common.{◌≡◌, refl, ap, sym, ◌∙◌, ◌⊎◌, inl, inr, subst, ℕ, ◌+◌, ◌<◌, arith, true, false, [], ◌++◌, Option, None, Some, length, take, drop, ⊎_elim}
use Rattle.std.proofs.lemmas.{Bool.cases_eq, Option.{none-some, same_Some}}
use Rattle.dr_calls.specs.Wire.{Called}
use Rattle.dr_history.{specs.{History.IsPrefixOf, Members.has}, proofs.{Lists.prefix_refl}}
use Rattle.dr_packet.specs.declared.Far.{Far}
use Rattle.dr_packet.specs.declared.Far.TheVariants as fars
use Rattle.dr_words.proofs.Masks.{has-old}
use Rattle.dr_seat_laws.specs.Seats.{Seats}
use Rattle.dr_seat_laws.specs.Sitting.{Clears, Counts, Forgets, Gathered, Hand, InAge, Leaves, Sitting, Stops, Synced, TakesHand, Trying, Written, counted, nothing, with_hand}
use Rattle.dr_seat_laws.proofs.Fresh.{Plan}
use Rattle.dr_seat_laws.proofs.Growing.{Goes, holds-on}
use Rattle.dr_seat_laws.proofs.Holding.{Ghost, HasRisen, HaveTold, Holds, IsDue, IsHandKept, IsIdle, IsRunning, IsSo, IsSoFar, IsTrying, Sits, WasHandedIn, called, opening_of}
use Rattle.dr_seat_laws.proofs.{Putting.{front-goes-on, put-other, put-own}, Wires.{HasVoted, wire-stays}}

-- a seat stands otherwise, and its log is the same
pub record IsQuietly (p : Plan) (new s next : Seats) (g : Ghost) (m : ℕ) (sit : Sitting) : Type 0 where
  pub holds : Holds p new s g
  pub others : (k : ℕ) → (k ≡ m → ⊥) → next.seats k ≡ s.seats k
  pub made : next.seats m ≡ sit
  pub log : sit.log ≡ (s.seats m).log
  pub sent : next.sent ≡ s.sent

module _ (p : Plan) (new s next : Seats) (g : Ghost) (m : ℕ) (sit : Sitting)
    (quiet : IsQuietly p new s next g m sit) where
  still-goes : Goes p s next g g m
  still-goes = record {
    wire = wire-stays g.wire m;
    seats = quiet.others;
    log = subst (λ l. IsPrefixOf (s.seats m).log.bytes l.bytes) (sym (ap (λ x. x.log) quiet.made ∙ quiet.log))
        (prefix_refl (s.seats m).log.bytes);
    doors = λ v k c n. refl;
    ran = λ v c. ([], refl);
    fresh = λ v c. inl c;
    ups = λ x c. c;
    risen = λ k c up. inl up;
    up = λ c risen up. up;
  }

  same-log : (k : ℕ) → (next.seats k).log ≡ (s.seats k).log
  same-log k = ⊎_elim (λ e. subst (λ n. (next.seats n).log ≡ (s.seats n).log) (sym e)
      (ap (λ x. x.log) quiet.made ∙ quiet.log)) (λ n. ap (λ x. x.log) (quiet.others k n)) (cases_eq k m)

  -- what it has of others' logs, where that is as before
  pub hands-stay : (k : ℕ) → IsHandKept g.wire (next.seats k).log k ((s.seats m).hands k)
  hands-stay k = subst (λ l. IsHandKept g.wire l k ((s.seats m).hands k)) (sym (same-log k))
      ((quiet.holds.sits m).hands k)

  pub quietly : Sits p next.seats g m sit
      → ((t : Trying) → sit.age ≡ None → sit.try ≡ Some t → IsIdle s g (called t.call) m) → Holds p new next g
  quietly sits idle = holds-on p new s next g g m quiet.holds still-goes quiet.holds.run (record {
    sits = subst (λ x. Sits p next.seats g m x) (sym quiet.made) sits;
    ages = λ c d. inl d;
    ups = λ k c up. inl up;
    idle = λ v c i. quiet.holds.idle v m c (was v.call i);
    sent = quiet.sent;
  })
    where
      was : (c : Called) → IsIdle next g c m → IsIdle s g c m
      was c (inl none) = inl none
      was c (inr r) = subst (λ x. IsIdle s g x m) r.1.2
          (idle r.1.0 (ap (λ x. x.age) (sym quiet.made) ∙ r.0) (ap (λ x. x.try) (sym quiet.made) ∙ r.1.1))

-- ---- what comes of others' logs

-- only what it has of them is otherwise
hands-changed : (p : Plan) (new s next : Seats) (g : Ghost) (m : ℕ) (hands : ℕ → Gathered)
    → IsQuietly p new s next g m (record (s.seats m) { hands = hands })
    → ((k : ℕ) → IsHandKept g.wire (s.seats k).log k (hands k)) → Holds p new next g
hands-changed p new s next g m hands quiet kept =
    let o = quiet.holds.sits m in
    let sit : Sitting = record (s.seats m) { hands = hands } in
    quietly p new s next g m sit quiet (record {
      stands = o.stands;
      lists = o.lists;
      long = o.long;
      hands = λ k. subst (λ l. IsHandKept g.wire l k (hands k)) (sym (same-log p new s next g m sit quiet k))
          (kept k);
      handed = o.handed;
      gathers = o.gathers;
      tries = o.tries;
      runs = o.runs;
      told = o.told;
      due = o.due;
      left = o.left;
      opens = o.opens;
    }) (λ t n e. inr (n, (t, e, refl)))

one-hand : (p : Plan) (new s : Seats) (g : Ghost) (m k : ℕ) (hand : Gathered) → Holds p new s g
    → IsHandKept g.wire (s.seats k).log k hand → (j : ℕ)
    → IsHandKept g.wire (s.seats j).log j (with_hand (s.seats m).hands k hand j)
one-hand p new s g m k hand holds kept j = by (cases_eq j k)
  where
    by : (j ≡ k) ⊎ (j ≡ k → ⊥) → IsHandKept g.wire (s.seats j).log j (with_hand (s.seats m).hands k hand j)
    by (inl e) = subst (λ n. IsHandKept g.wire (s.seats n).log n (with_hand (s.seats m).hands k hand n)) (sym e)
        (subst (λ x. IsHandKept g.wire (s.seats k).log k x) (sym (put-own (s.seats m).hands k hand)) kept)
    by (inr n) = subst (λ x. IsHandKept g.wire (s.seats j).log j x) (sym (put-other (s.seats m).hands k hand j n))
        ((holds.sits m).hands j)

pub takes-hand : (p : Plan) (new s next : Seats) (g : Ghost) (m : ℕ) → Holds p new s g
    → ((k : ℕ) → (k ≡ m → ⊥) → next.seats k ≡ s.seats k) → next.sent ≡ s.sent
    → TakesHand s.sent m (s.seats m) (next.seats m) → Holds p new next g
takes-hand p new s next g m holds others sent x = hands-changed p new s next g m _
    (record { holds = holds; others = others; made = x.made; log = refl; sent = sent })
    (one-hand p new s g m x.from x.hand holds (record {
      front = front x.goes_on.2;
      given = λ some. (
        so.0,
        subst (λ n. WasHandedIn g.wire (s.seats x.from).log x.from n so.0)
            (sym x.goes_on.1) so.1,
      );
    }))
  where
    so : IsSo s g x.from (Hand x.long x.at x.part)
    so = holds.sent _ x.told

    had : Gathered
    had = (s.seats m).hands x.from

    kept : IsHandKept g.wire (s.seats x.from).log x.from had
    kept = (holds.sits m).hands x.from

    front : (x.hand.bytes ≡ had.bytes)
        ⊎ ((x.at ≡ length had.bytes) × (x.at + length x.part < x.long) × (x.hand.bytes ≡ had.bytes ++ x.part))
        → IsPrefixOf x.hand.bytes (s.seats x.from).log.bytes
    front (inl e) = subst (λ bs. IsPrefixOf bs (s.seats x.from).log.bytes) (sym e) kept.front
    front (inr r) = subst (λ bs. IsPrefixOf bs (s.seats x.from).log.bytes)
        (ap (λ n. had.bytes ++ take (length x.part) (drop n so.0)) (sym r.0) ∙ ap (λ t. had.bytes ++ t) (sym so.3)
        ∙ sym r.2) (front-goes-on had.bytes so.0 (s.seats x.from).log.bytes (length x.part) kept.front so.1.1
        (omega (arith, r.0, so.2, so.1.0.size)))

pub forgets : (p : Plan) (new s next : Seats) (g : Ghost) (m : ℕ) → Holds p new s g
    → ((k : ℕ) → (k ≡ m → ⊥) → next.seats k ≡ s.seats k) → next.sent ≡ s.sent
    → Forgets (s.seats m) (next.seats m) → Holds p new next g
forgets p new s next g m holds others sent x = hands-changed p new s next g m _
    (record { holds = holds; others = others; made = x.made; log = refl; sent = sent })
    (one-hand p new s g m x.member nothing holds
    (record { front = ((s.seats x.member).log.bytes, refl); given = λ some. absurd (omega (arith, some)) }))

-- ---- what others tell

-- counting changes neither the call nor the start nor the step
pub record SameTry (t u : Trying) : Type 0 where
  pub call : u.call ≡ t.call
  pub start : u.start ≡ t.start
  pub step : u.step ≡ t.step

same-counted : (k : ℕ) (far : Far) (t : Trying) → SameTry t (counted k far t)
same-counted k fars.Chosen t = record { call = refl; start = refl; step = refl }
same-counted k fars.Voted t = record { call = refl; start = refl; step = refl }
same-counted k fars.Up t = record { call = refl; start = refl; step = refl }

told-counted : (g : Ghost) (k : ℕ) (far : Far) (t : Trying) → IsSoFar g k (called t.call) far → HaveTold g t
    → HaveTold g (counted k far t)
told-counted g k fars.Chosen t so told = told
told-counted g k fars.Voted t so told = record { voted = λ j e. by j e (cases_eq j k); up = told.up }
  where
    by : (j : ℕ) → has (counted k fars.Voted t).voted j ≡ true → (j ≡ k) ⊎ (j ≡ k → ⊥)
        → HasVoted g.wire j (called t.call)
    by j e (inl f) = subst (λ n. HasVoted g.wire n (called t.call)) (sym f) so
    by j e (inr n) = told.voted j (has-old t.voted k j n e)
told-counted g k fars.Up t so told =
    record { voted = λ j e. by j e (cases_eq j k); up = λ j e. up j e (cases_eq j k) }
  where
    by : (j : ℕ) → has (counted k fars.Up t).voted j ≡ true → (j ≡ k) ⊎ (j ≡ k → ⊥)
        → HasVoted g.wire j (called t.call)
    by j e (inl f) = subst (λ n. HasVoted g.wire n (called t.call)) (sym f) so.0
    by j e (inr n) = told.voted j (has-old t.voted k j n e)

    up : (j : ℕ) → has (counted k fars.Up t).up j ≡ true → (j ≡ k) ⊎ (j ≡ k → ⊥) → HasRisen g j (called t.call)
    up j e (inl f) = subst (λ n. HasRisen g n (called t.call)) (sym f) so.1
    up j e (inr n) = told.up j (has-old t.up k j n e)

trying-same : (g : Ghost) (m : ℕ) (log : _) (t u : Trying) → SameTry t u → IsTrying g m log t → IsTrying g m log u
trying-same g m log t u same x = record {
  vote = x.vote;
  tries = x.tries;
  call = x.call ∙ ap called (sym same.call);
  start = x.start ∙ sym same.start;
  votes = x.votes;
  entries = x.entries;
  step = ⊎_elim (λ r. inl (same.step ∙ r.0, r.1)) (λ r. inr (same.step ∙ r.0, r.1, r.2)) x.step;
}

due-same : (p : Plan) (g : Ghost) (m : ℕ) (log : _) (t u : Trying) (age : Option InAge) (written : Written)
    → SameTry t u → age ≡ None → IsDue (opening_of p) g m log (Some t) age written
    → IsDue (opening_of p) g m log (Some u) age written
due-same p g m log t u age written same none (inl x) = inl (record {
  call = x.call;
  logs = x.logs;
  start = x.start;
  waits = x.waits;
  handed = x.handed;
  inside = x.inside;
  own = x.own;
  given = x.given;
  chosen = x.chosen;
  present = x.present;
  members = x.members;
  same_age = x.same_age;
  content = x.content;
  no_age = x.no_age;
  same = λ y e. let r = x.same t refl in let f = same_Some u y e in (
    r.0 ∙ ap called (sym same.call) ∙ ap (λ z. called z.call) f,
    r.1 ∙ sym same.start ∙ ap (λ z. z.start) f,
    ap (λ z. z.step) (sym f) ∙ same.step ∙ r.2,
  );
})
due-same p g m log t u age written same none (inr (inl x)) = inr (inl (record {
  vote = x.vote;
  tries = x.tries;
  opened = x.opened;
  below = x.below;
  entries = x.entries;
  votes = x.votes;
  stay = x.stay;
  age_votes = x.age_votes;
  no_age = x.no_age;
  same = λ y e. let r = x.same t refl in let f = same_Some u y e in (
    r.0 ∙ ap called (sym same.call) ∙ ap (λ z. called z.call) f,
    r.1 ∙ sym same.start ∙ ap (λ z. z.start) f,
    ⊎_elim (λ d. inl (ap (λ z. z.step) (sym f) ∙ same.step ∙ d))
        (λ d. inr (ap (λ z. z.step) (sym f) ∙ same.step ∙ d.0, d.1)) r.2,
  );
}))
due-same p g m log t u age written same none (inr (inr x)) =
    let r = x.runs t refl in absurd (none-some r.0 (sym none ∙ r.1))

pub counts : (p : Plan) (new s next : Seats) (g : Ghost) (m : ℕ) → Holds p new s g
    → ((k : ℕ) → (k ≡ m → ⊥) → next.seats k ≡ s.seats k) → next.sent ≡ s.sent
    → Counts s.sent m (s.seats m) (next.seats m) → Holds p new next g
counts p new s next g m holds others sent x = quietly p new s next g m sit quiet (record {
  stands = o.stands;
  lists = o.lists;
  long = o.long;
  hands = hands-stay p new s next g m sit quiet;
  handed = o.handed;
  gathers = λ n rest e none. absurd (none-some u (sym none));
  tries = λ t rest e none. subst (λ y. IsTrying g m sit.log.content y) (same_Some u t e)
      (trying-same g m sit.log.content x.try u same (o.tries x.try rest x.tries none));
  runs = λ a e. absurd (none-some a (sym x.no_age ∙ e));
  told = λ t e. subst (λ y. HaveTold g y) (same_Some u t e)
      (told-counted g x.from x.far x.try (holds.sent _ x.told) (o.told x.try x.tries));
  due = λ written e. let d = o.due written e in (
    d.0,
    due-same p g m sit.log.content x.try u sit.age written same
        x.no_age (subst (λ y. IsDue (opening_of p) g m sit.log.content y sit.age written) x.tries d.1),
  );
  left = λ written n e none f. absurd (none-some u (sym none));
  opens = λ e. absurd (none-some x.try (sym (o.opens e).0 ∙ x.tries));
}) (λ t n e. inr (n, (x.try, x.tries, ap called (sym same.call) ∙ ap (λ y. called y.call) (same_Some u t e))))
  where
    o : Sits p s.seats g m (s.seats m)
    o = holds.sits m

    u : Trying
    u = counted x.from x.far x.try

    same : SameTry x.try u
    same = same-counted x.from x.far x.try

    sit : Sitting
    sit = record (s.seats m) { try = Some u }

    quiet : IsQuietly p new s next g m sit
    quiet = record { holds = holds; others = others; made = x.made; log = refl; sent = sent }

-- ---- its batch

pub clears : (p : Plan) (new s next : Seats) (g : Ghost) (m : ℕ) → Holds p new s g
    → ((k : ℕ) → (k ≡ m → ⊥) → next.seats k ≡ s.seats k) → next.sent ≡ s.sent
    → Clears (s.seats m) (next.seats m) → Holds p new next g
clears p new s next g m holds others sent x = quietly p new s next g m sit quiet (record {
  stands = o.stands;
  lists = o.lists;
  long = o.long;
  hands = hands-stay p new s next g m sit quiet;
  handed = o.handed;
  gathers = o.gathers;
  tries = λ t rest e none. absurd (none-some a (sym none));
  runs = λ b e. let r = o.runs x.age x.runs in
      (r.0, r.1, subst (λ y. IsRunning g m sit.log.content r.0 y) (same_Some a b e) (emptied r.0 r.2));
  told = o.told;
  due = λ written e. let d = o.due written e in (d.0, due written d.1);
  left = o.left;
  opens = λ e. absurd (none-some x.age (sym (o.opens e).1 ∙ x.runs));
}) (λ t none e. absurd (none-some a (sym none)))
  where
    o : Sits p s.seats g m (s.seats m)
    o = holds.sits m

    a : InAge
    a = record { door = x.age.door; batch = [] }

    sit : Sitting
    sit = record (s.seats m) { age = Some a }

    quiet : IsQuietly p new s next g m sit
    quiet = record { holds = holds; others = others; made = x.made; log = refl; sent = sent }

    emptied : (t : Trying) → IsRunning g m sit.log.content t x.age → IsRunning g m sit.log.content t a
    emptied t r = record {
      vote = r.vote;
      tries = r.tries;
      call = r.call;
      start = r.start;
      step = r.step;
      began = r.began;
      door = r.door;
      batch = λ v c e y d. absurd (omega (arith, d.1));
      served = r.served;
    }

    due : (written : Written) → IsDue (opening_of p) g m sit.log.content (s.seats m).try (s.seats m).age written
        → IsDue (opening_of p) g m sit.log.content (s.seats m).try (Some a) written
    due written (inl y) = absurd (none-some x.age (sym y.no_age ∙ x.runs))
    due written (inr (inl y)) = absurd (none-some x.age (sym y.no_age ∙ x.runs))
    due written (inr (inr y)) = inr (inr (record {
      vote = y.vote;
      tries = y.tries;
      began = y.began;
      door = y.door;
      there = y.there;
      served = y.served;
      what = y.what;
      due = y.due;
      content = y.content;
      runs = λ t e. (a, refl);
    }))

-- ---- it gathers anew, or stops

-- of what goes to its log nothing is asked any more
left-due : (p : Plan) (g : Ghost) (m : ℕ) (log : _) (try : Option Trying) (age : Option InAge) (written : Written)
    → IsDue (opening_of p) g m log try age written → IsDue (opening_of p) g m log None None written
left-due p g m log try age written (inl x) = inl (record {
  call = x.call;
  logs = x.logs;
  start = x.start;
  waits = x.waits;
  handed = x.handed;
  inside = x.inside;
  own = x.own;
  given = x.given;
  chosen = x.chosen;
  present = x.present;
  members = x.members;
  same_age = x.same_age;
  content = x.content;
  no_age = refl;
  same = λ t e. absurd (none-some t e);
})
left-due p g m log try age written (inr (inl x)) = inr (inl (record {
  vote = x.vote;
  tries = x.tries;
  opened = x.opened;
  below = x.below;
  entries = x.entries;
  votes = x.votes;
  stay = x.stay;
  age_votes = x.age_votes;
  no_age = refl;
  same = λ t e. absurd (none-some t e);
}))
left-due p g m log try age written (inr (inr x)) = inr (inr (record {
  vote = x.vote;
  tries = x.tries;
  began = x.began;
  door = x.door;
  there = x.there;
  served = x.served;
  what = x.what;
  due = x.due;
  content = x.content;
  runs = λ t e. absurd (none-some t e);
}))

pub leaves : (p : Plan) (new s next : Seats) (g : Ghost) (m : ℕ) → Holds p new s g
    → ((k : ℕ) → (k ≡ m → ⊥) → next.seats k ≡ s.seats k) → next.sent ≡ s.sent
    → Leaves (s.seats m) (next.seats m) → Holds p new next g
leaves p new s next g m holds others sent x = quietly p new s next g m sit quiet (record {
  stands = o.stands;
  lists = o.lists;
  long = o.long;
  hands = hands-stay p new s next g m sit quiet;
  handed = λ n e. absurd (none-some n e);
  gathers = λ n rest e none. absurd (none-some n e);
  tries = λ t rest e none. absurd (none-some t e);
  runs = λ a e. absurd (none-some a e);
  told = λ t e. absurd (none-some t e);
  due = λ written e. let d = o.due written e in
      (d.0, left-due p g m sit.log.content (s.seats m).try (s.seats m).age written d.1);
  left = λ written n e none f. none-some n f;
  opens = λ e. (refl, refl, refl);
}) (λ t none e. absurd (none-some t e))
  where
    o : Sits p s.seats g m (s.seats m)
    o = holds.sits m

    sit : Sitting
    sit = record (s.seats m) { handed = None; try = None; age = None }

    quiet : IsQuietly p new s next g m sit
    quiet = record { holds = holds; others = others; made = x.made; log = refl; sent = sent }

pub stops : (p : Plan) (new s next : Seats) (g : Ghost) (m : ℕ) → Holds p new s g
    → ((k : ℕ) → (k ≡ m → ⊥) → next.seats k ≡ s.seats k) → next.sent ≡ s.sent
    → Stops (s.seats m) (next.seats m) → Holds p new next g
stops p new s next g m holds others sent x = quietly p new s next g m sit quiet (record {
  stands = o.stands;
  lists = o.lists;
  long = o.long;
  hands = λ k. record { front = ((next.seats k).log.bytes, refl); given = λ some. absurd (omega (arith, some)) };
  handed = λ n e. absurd (none-some n e);
  gathers = λ n rest e none. absurd (none-some n e);
  tries = λ t rest e none. absurd (none-some t e);
  runs = λ a e. absurd (none-some a e);
  told = λ t e. absurd (none-some t e);
  due = λ written e. let d = o.due written e in
      (d.0, left-due p g m sit.log.content (s.seats m).try (s.seats m).age written d.1);
  left = λ written n e none f. none-some n f;
  opens = λ e. (refl, refl, refl);
}) (λ t none e. absurd (none-some t e))
  where
    o : Sits p s.seats g m (s.seats m)
    o = holds.sits m

    sit : Sitting
    sit = record {
      log = (s.seats m).log;
      coming = (s.seats m).coming;
      opens = true;
      handed = None;
      hands = λ k. nothing;
      try = None;
      age = None;
    }

    quiet : IsQuietly p new s next g m sit
    quiet = record { holds = holds; others = others; made = x.made; log = refl; sent = sent }

-- its log is the one from before
pub synced-old : (p : Plan) (new s next : Seats) (g : Ghost) (m : ℕ) → Holds p new s g
    → ((k : ℕ) → (k ≡ m → ⊥) → next.seats k ≡ s.seats k) → next.sent ≡ s.sent
    → (x : Synced (s.seats m) (next.seats m)) → x.log ≡ (s.seats m).log → Holds p new next g
synced-old p new s next g m holds others sent x same = quietly p new s next g m sit quiet (record {
  stands = o.stands;
  lists = o.lists;
  long = o.long;
  hands = hands-stay p new s next g m sit quiet;
  handed = o.handed;
  gathers = λ n rest e none. absurd (none-some n (sym closed.2 ∙ e));
  tries = λ t rest e none. absurd (none-some t (sym closed.0 ∙ e));
  runs = λ a e. absurd (none-some a (sym closed.1 ∙ e));
  told = o.told;
  due = λ written e. absurd (none-some written e);
  left = λ written n e none f. none-some written e;
  opens = λ e. closed;
}) (λ t none e. absurd (none-some t (sym closed.0 ∙ e)))
  where
    o : Sits p s.seats g m (s.seats m)
    o = holds.sits m

    closed : ((s.seats m).try ≡ None) × ((s.seats m).age ≡ None) × ((s.seats m).handed ≡ None)
    closed = o.opens x.opens

    sit : Sitting
    sit = record (s.seats m) { coming = None; opens = false }

    quiet : IsQuietly p new s next g m sit
    quiet = record {
      holds = holds;
      others = others;
      made = x.made ∙ ap (λ l. record (s.seats m) { log = l; coming = None; opens = false }) same;
      log = refl;
      sent = sent;
    }
