-- What a seat begins to append.
use Rattle.std.proofs.Common.{◌≡◌, refl, ap, sym, ◌∙◌, ◌⊎◌, inl, inr, subst, ℕ, ◌+◌, ◌<◌, arith, true, List, [], ◌∷◌, ◌++◌, Contains, Option, None, Some, length, slice_index, ⊎_elim}
use Rattle.std.proofs.lemmas.{Option.{none-some, same_Some}}
use Rattle.dr_entry.specs.declared.entry.Entry.{Entry}
use Rattle.dr_history.specs.{History.IsPrefixOf, Members.has}
use Rattle.dr_history.proofs.{Bits.has_zero, Lists.prefix_refl}
use Rattle.dr_log_bytes.{specs.{Content.{OnLog, content_after, empty_of}, Grammar.IsLogOf}, proofs.Meaning.log_once}
use Rattle.dr_opening.specs.Lists.{as_lists}
use Rattle.dr_restart.specs.Trying.{MayBeBroughtUp, first_view_of}
use Rattle.dr_restart.specs.declared.{lists.LogLists.LogLists, start.Start.Start}
use Rattle.dr_seat_laws.specs.Seats.{Seats}
use Rattle.dr_seat_laws.specs.Sitting.{Appends, Casts, HasGrown, InAge, IsReadOf, Raises, Sitting, Trying, Up, Voted as HasTheVote, Votes as Casting, Written, long_of}
use Rattle.dr_seat_laws.proofs.{Coming.{grown-longer, vote-step}, Fresh.Plan, Putting.fronts-same, Quiet.{IsQuietly, hands-stay, quietly}}
use Rattle.dr_seat_laws.proofs.Wires.{HasVoted, votes-goes}
use Rattle.dr_seat_laws.proofs.Holding.{Ghost, HasRisen, HaveTold, Holds, IsDue, IsHandedIn, IsRunning, IsTrying, RiseDue, RunDue, Sits, VoteDue, WasHandedIn, called, new_wire, opening_of}

-- bytes stand for one thing
stand-once : (bytes : List ℕ) (c d : OnLog) → IsLogOf bytes c → IsLogOf bytes d → c ≡ d
stand-once bytes c d x y =
    let same = log_once bytes x.newer y.newer x.records y.records x.log y.log in
    sym x.content ∙ ap (λ n. content_after (empty_of n) x.records) same.0
    ∙ ap (λ rs. content_after (empty_of y.newer) rs) same.1 ∙ y.content

-- a log goes from one to another that is on its way to a start, and on to a third
brought-twice : (start : Start) (a b c : List Entry) → MayBeBroughtUp start a b → MayBeBroughtUp start b c
    → MayBeBroughtUp start a c
brought-twice start a b c (inl e) q = subst (λ x. MayBeBroughtUp start x c) e q
brought-twice start a b c (inr p) (inl e) = subst (λ x. MayBeBroughtUp start a x) (sym e) (inr p)
brought-twice start a b c (inr p) (inr q) = inr (q.0, λ front f g. q.1 front (p.1 front f g) g)

-- what was handed in with the length of a log's part is that part
given-lists : (g : Ghost) (k long : ℕ) (log : Written) (part : List ℕ) (c : OnLog) (bs : List ℕ)
    → WasHandedIn g.wire log k long bs → IsPrefixOf part log.bytes → length part + 1 ≡ long
    → IsLogOf (part ++ 0 ∷ []) c
    → Contains g.wire.given (record { member = k; long = long; lists = as_lists c })
given-lists g k long log part c bs was front size stands =
    let same : bs ≡ part = fronts-same bs part log.bytes was.1 front (omega (arith, was.0.size, size)) in
    let one : was.0.content ≡ c = stand-once (part ++ 0 ∷ []) was.0.content c
    (subst (λ x. IsLogOf (x ++ 0 ∷ []) was.0.content) same was.0.stands) stands in
    subst (λ x. Contains g.wire.given (record { member = k; long = long; lists = as_lists x })) one was.0.given

-- no age where there is no try
pub no-age : (p : Plan) (seats : ℕ → Sitting) (g : Ghost) (m : ℕ) (s : Sitting) → Sits p seats g m s → s.try ≡ None
    → (age : Option InAge) → s.age ≡ age → s.age ≡ None
no-age p seats g m s o none None e = e
no-age p seats g m s o none (Some a) e = let r = o.runs a e in absurd (none-some r.0 (sym none ∙ r.1))

-- ---- a vote

pub casts : (p : Plan) (new s next : Seats) (g : Ghost) (m : ℕ) → Holds p new s g
    → ((k : ℕ) → (k ≡ m → ⊥) → next.seats k ≡ s.seats k) → next.sent ≡ s.sent
    → Casts (opening_of p) m (s.seats m) (next.seats m) → Holds p new next g
casts p new s next g m holds others sent x = quietly p new s next g m sit quiet (record {
  stands = o.stands;
  lists = o.lists;
  long = o.long;
  hands = hands-stay p new s next g m sit quiet;
  handed = o.handed;
  gathers = λ n rest e none. absurd (none-some t (sym none));
  tries = λ u rest e none. absurd (none-some x.next (sym rest));
  runs = λ a e. absurd (none-some a (sym none ∙ e));
  told = λ u e. subst (λ y. HaveTold g y) (same_Some t u e) (record {
    voted = λ k e. absurd (cc (has_zero k, e));
    up = λ k e. absurd (cc (has_zero k, e));
  });
  due = λ written e. subst (λ y. HasGrown (s.seats m).log y
      × IsDue (opening_of p) g m (s.seats m).log.content (Some t) (s.seats m).age y) (same_Some x.next written e)
      (x.grown, inl due);
  left = λ written n e none f. absurd (none-some t (sym none));
  opens = λ e. absurd (cc (x.rest.1, e));
}) (λ u n e. inl (λ v c f d. omega (
  arith,
  (votes-goes (opening_of p) (new_wire new) g.wire _ holds.run (vote-step (opening_of p) g m
      (s.seats m).log.content (Some t) (s.seats m).age x.next due longer)).above v c f,
  ap (λ y. y.age) d,
  ap (λ y. y.call.age) (same_Some t u e),
)))
  where
    o : Sits p s.seats g m (s.seats m)
    o = holds.sits m

    t : Trying
    t = record { call = x.call; start = x.start; step = Casting; voted = 0; up = 0 }

    sit : Sitting
    sit = record (s.seats m) { coming = Some x.next; try = Some t }

    quiet : IsQuietly p new s next g m sit
    quiet = record { holds = holds; others = others; made = x.made; log = refl; sent = sent }

    none : (s.seats m).age ≡ None
    none = no-age p s.seats g m (s.seats m) o x.gathers (s.seats m).age refl

    in-hand : IsHandedIn g.wire m (s.seats m).log (long_of (s.seats m).log)
    in-hand = o.gathers (long_of (s.seats m).log) x.rest.0 x.handed x.gathers

    longer : (g.wire.places m).long < long_of x.next
    longer = omega (arith, o.long, grown-longer (s.seats m).log x.next x.grown)

    given : (k : ℕ) (log : LogLists) → has x.call.set k ≡ true → IsReadOf (s.seats m) m x.call k log
        → Contains g.wire.given (record { member = k; long = slice_index x.call.lengths k; lists = log })
    given k log inside (inl r) =
        let b = o.handed (long_of (s.seats m).log) x.handed in
        let c = given-lists g m (long_of (s.seats m).log) (s.seats m).log (s.seats m).log.bytes
        (s.seats m).log.content b.0 b.1 (prefix_refl (s.seats m).log.bytes) refl o.stands in
        subst (λ l. Contains g.wire.given (record { member = k; long = slice_index x.call.lengths k; lists = l }))
        (sym r.1) (subst (λ j. Contains g.wire.given (record {
          member = j;
          long = slice_index x.call.lengths j;
          lists = as_lists (s.seats m).log.content;
        })) (sym r.0) (subst (λ n. Contains g.wire.given (record {
          member = m;
          long = n;
          lists = as_lists (s.seats m).log.content;
        })) (sym x.own) c))
    given k log inside (inr r) =
        let kept = o.hands k in
        let b = kept.given (omega (arith, r.2)) in
        let c = given-lists g k ((s.seats m).hands k).long (s.seats k).log ((s.seats m).hands k).bytes
        r.3.0 b.0 b.1 kept.front r.2 r.3.1 in
        subst (λ l. Contains g.wire.given (record { member = k; long = slice_index x.call.lengths k; lists = l }))
        (sym r.3.2) (subst (λ n. Contains g.wire.given (record { member = k; long = n; lists = as_lists r.3.0 }))
        r.1 c)

    due : VoteDue (opening_of p) g m (s.seats m).log.content (Some t) (s.seats m).age x.next
    due = record {
      call = called x.call;
      logs = x.logs;
      start = x.start;
      waits = in-hand.waits;
      handed = in-hand.handed ∙ ap Some (sym o.long);
      inside = x.inside;
      own = x.own ∙ sym o.long;
      given = λ k log inside is. given k log inside (x.read k log inside is);
      chosen = x.chosen;
      present = x.present;
      members = x.members;
      same_age = x.age;
      content = ap as_lists x.content;
      no_age = none;
      same = λ u e. let f = same_Some t u e in
          (ap (λ y. called y.call) f, ap (λ y. y.start) f, ap (λ y. y.step) (sym f));
    }

-- ---- a cut, or the start

pub raises : (p : Plan) (new s next : Seats) (g : Ghost) (m : ℕ) → Holds p new s g
    → ((k : ℕ) → (k ≡ m → ⊥) → next.seats k ≡ s.seats k) → next.sent ≡ s.sent
    → Raises (s.seats m) (next.seats m) → Holds p new next g
raises p new s next g m holds others sent x = quietly p new s next g m sit quiet (record {
  stands = o.stands;
  lists = o.lists;
  long = o.long;
  hands = hands-stay p new s next g m sit quiet;
  handed = o.handed;
  gathers = λ n rest e none. absurd (none-some u (sym none));
  tries = λ y rest e none. absurd (none-some x.next (sym rest));
  runs = λ a e. absurd (none-some a (sym x.no_age ∙ e));
  told = λ y e. subst (λ z. HaveTold g z) (same_Some u y e)
      (record { voted = told.voted; up = told.up });
  due = λ written e. subst (λ y. HasGrown (s.seats m).log y
      × IsDue (opening_of p) g m (s.seats m).log.content (Some u) (s.seats m).age y) (same_Some x.next written e)
      (x.grown, inr (inl due));
  left = λ written n e none f. absurd (none-some u (sym none));
  opens = λ e. absurd (cc (x.rest.1, e));
}) (λ y n e. inr (n, (x.try, x.tries, ap (λ z. called z.call) (same_Some u y e))))
  where
    o : Sits p s.seats g m (s.seats m)
    o = holds.sits m

    u : Trying
    u = record x.try { step = x.step }

    sit : Sitting
    sit = record (s.seats m) { coming = Some x.next; try = Some u }

    quiet : IsQuietly p new s next g m sit
    quiet = record { holds = holds; others = others; made = x.made; log = refl; sent = sent }

    told : HaveTold g x.try
    told = o.told x.try x.tries

    trying : IsTrying g m (s.seats m).log.content x.try
    trying = o.tries x.try x.rest.0 x.tries x.no_age

    below : ((x.try.step ≡ HasTheVote) × (HasRisen g m trying.vote.call → ⊥)) ⊎ ((x.try.step ≡ Up)
        × HasRisen g m trying.vote.call
        × ((s.seats m).log.content.entries ≡ trying.vote.start.entries ++ first_view_of trying.vote.start ∷ []))
        → HasRisen g m trying.vote.call → ⊥
    below (inl r) = r.1
    below (inr r) = absurd (cc (x.voted, r.0))

    due : RiseDue g m (s.seats m).log.content (Some u) (s.seats m).age x.next
    due = record {
      vote = trying.vote;
      tries = trying.tries;
      below = below trying.step;
      opened = λ k inside. subst (λ c. HasVoted g.wire k c) (sym trying.call)
          (told.voted k (subst (λ n. has n k ≡ true) (sym x.all)
          (subst (λ c. has c.set k ≡ true) trying.call inside)));
      entries = brought-twice trying.vote.start trying.vote.before.entries (s.seats m).log.content.entries
          x.next.content.entries trying.entries
          (subst (λ st. MayBeBroughtUp st (s.seats m).log.content.entries x.next.content.entries)
          (sym trying.start) x.content.2);
      votes = x.content.0 ∙ trying.votes;
      stay = x.content.0;
      age_votes = x.content.1;
      no_age = x.no_age;
      same = λ y e. let f = same_Some u y e in (
        trying.call ∙ ap (λ z. called z.call) f,
        trying.start ∙ ap (λ z. z.start) f,
        ⊎_elim (λ r. inl (ap (λ z. z.step) (sym f) ∙ r)) (λ r. inr (
          ap (λ z. z.step) (sym f) ∙ r.0,
          r.1 ∙ ap (λ (st : Start). st.entries ++ first_view_of st ∷ []) (sym trying.start),
        )) x.content.3,
      );
    }

-- ---- what its member appends

pub appends : (p : Plan) (new s next : Seats) (g : Ghost) (m : ℕ) → Holds p new s g
    → ((k : ℕ) → (k ≡ m → ⊥) → next.seats k ≡ s.seats k) → next.sent ≡ s.sent
    → Appends (s.seats m) (next.seats m) → Holds p new next g
appends p new s next g m holds others sent x = quietly p new s next g m sit quiet (record {
  stands = o.stands;
  lists = o.lists;
  long = o.long;
  hands = hands-stay p new s next g m sit quiet;
  handed = o.handed;
  gathers = λ n rest e none. absurd (none-some x.next (sym rest));
  tries = λ y rest e none. absurd (none-some x.next (sym rest));
  runs = o.runs;
  told = o.told;
  due = λ written e. subst (λ y. HasGrown (s.seats m).log y
      × IsDue (opening_of p) g m (s.seats m).log.content (s.seats m).try (s.seats m).age y)
      (same_Some x.next written e) (x.grown, inr (inr due));
  left = λ written n e none f. none-some run.0 (sym none ∙ run.1);
  opens = λ e. absurd (cc (x.rest.1, e));
}) (λ y n e. absurd (none-some x.age (sym n ∙ x.runs)))
  where
    o : Sits p s.seats g m (s.seats m)
    o = holds.sits m

    sit : Sitting
    sit = record (s.seats m) { coming = Some x.next }

    quiet : IsQuietly p new s next g m sit
    quiet = record { holds = holds; others = others; made = x.made; log = refl; sent = sent }

    run : (t : Trying) × ((s.seats m).try ≡ Some t) × IsRunning g m (s.seats m).log.content t x.age
    run = o.runs x.age x.runs

    due : RunDue g m (s.seats m).log.content (s.seats m).try (s.seats m).age x.next
    due = record {
      vote = run.2.vote;
      tries = run.2.tries;
      began = run.2.began;
      door = x.age.door;
      there = run.2.door;
      served = run.2.served;
      what = x.what;
      due = x.due;
      content = x.content;
      runs = λ t e. (x.age, x.runs);
    }
