-- A seat hands in its log, and its member begins.
use Rattle.std.proofs.Common.{◌≡◌, refl, ap, sym, ◌∙◌, ◌⊎◌, inl, inr, subst, ℕ, ◌+◌, ◌<◌, arith, true, [], ◌∷◌, ◌++◌, Contains, None, Some, ⊎_elim}
use Rattle.std.proofs.lemmas.{Bool.cases_eq, List.Elements.{Contains-push, Contains-push_cases}, Option.{none-some, same_Some}}
use Rattle.dr_calls.specs.Wire.{Begins as WireBegins, Called, Given, HandsIn as WireHandsIn, IsOpened, IsRunSince, Leaves as WireLeaves, Place, Voted, Wire}
use Rattle.dr_calls.proofs.{Between.Keeps, Lasting.kept-of}
use Rattle.dr_history.{specs.{History.IsPrefixOf, Members.has}, proofs.Lists.prefix_refl}
use Rattle.dr_kept.specs.Leaving.{HasJustLogged}
use Rattle.dr_opening.specs.Lists.{as_lists}
use Rattle.dr_program.specs.Presence.{present_at}
use Rattle.dr_restart.specs.Trying.{first_view_of}
use Rattle.dr_seat_laws.specs.Seats.{Seats}
use Rattle.dr_seat_laws.specs.Sitting.{Begins, HandsIn, InAge, Sitting, long_of}
use Rattle.dr_seat_laws.proofs.{Calls.{earlier-votes, same-start}, Coming.placed}
use Rattle.dr_seat_laws.proofs.Fresh.{Plan, fresh, fresh-just, fresh-there, one-fresh}
use Rattle.dr_seat_laws.proofs.Growing.{Goes, hand-on, holds-on, opened-on, voted-on}
use Rattle.dr_seat_laws.proofs.Holding.{Ghost, HasDoor, HasRisen, HaveTold, Holds, IsIdle, IsRunning, IsTrying, IsUp, Sits, called, new_wire, opening_of}
use Rattle.dr_seat_laws.proofs.{Putting.{put, put-other, put-own}, Wires.{IsQuiet, begins-goes, hands-in-goes, leaves-goes, quiet-both, run-on}}

-- where the wire alone goes on, and nobody votes and no log changes, who was up is up
quiet-up : (g h : Ghost) (k : ℕ) (c : Called) (m : ℕ) → IsQuiet g.wire h.wire m
    → ((v : Voted) → h.apart v ≡ g.apart v)
    → IsUp g k c → IsUp h k c
quiet-up g h k c m q same up = record {
  inside = up.inside;
  opened = opened-on g.wire h.wire c q.goes.votes up.opened;
  left = λ v d e. let l = up.left v (subst (λ vs. Contains vs v) q.votes d) e in record {
    door = l.door;
    there = ap (λ a. present_at a.doors k) (same v) ∙ l.there;
    base = l.base;
    earlier = l.earlier;
    found = l.found;
    left = l.left;
    is = q.still (c.age + 1) k ∙ l.is;
  };
}

-- so all goes on
quiet-goes : (p : Plan) (s next : Seats) (g h : Ghost) (m : ℕ) → IsQuiet g.wire h.wire m
    → ((v : Voted) → h.apart v ≡ g.apart v) → h.ups ≡ g.ups → ((k : ℕ) → (k ≡ m → ⊥) → next.seats k ≡ s.seats k)
    → (next.seats m).log ≡ (s.seats m).log → Goes p s next g h m
quiet-goes p s next g h m q same ups others log = record {
  wire = q.goes;
  seats = others;
  log = subst (λ l. IsPrefixOf (s.seats m).log.bytes l.bytes) (sym log) (prefix_refl (s.seats m).log.bytes);
  doors = λ v k c n. ap (λ a. present_at a.doors k) (same v);
  ran = λ v c. ([], same v);
  fresh = λ v c. inl (subst (λ vs. Contains vs v) q.votes c);
  ups = λ x c. subst (λ l. Contains l x) (sym ups) c;
  risen = λ k c up. inl (subst (λ l. Contains l (record { member = k; call = c })) ups up);
  up = λ c risen up. quiet-up g h m c m q same up;
}

logs-alike : (s next : Seats) (m : ℕ) → ((k : ℕ) → (k ≡ m → ⊥) → next.seats k ≡ s.seats k)
    → (next.seats m).log ≡ (s.seats m).log → (k : ℕ)
    → IsPrefixOf (s.seats k).log.bytes (next.seats k).log.bytes
logs-alike s next m others log k = subst (λ l. IsPrefixOf (s.seats k).log.bytes l.bytes) (by (cases_eq k m))
    (prefix_refl (s.seats k).log.bytes)
  where
    by : (k ≡ m) ⊎ (k ≡ m → ⊥) → (s.seats k).log ≡ (next.seats k).log
    by (inl e) = sym (subst (λ n. (next.seats n).log ≡ (s.seats n).log) (sym e) log)
    by (inr n) = ap (λ x. x.log) (sym (others k n))

-- ---- it hands in its log

pub hands-in : (p : Plan) (new s next : Seats) (g : Ghost) (m : ℕ) → Holds p new s g
    → ((k : ℕ) → (k ≡ m → ⊥) → next.seats k ≡ s.seats k) → next.sent ≡ s.sent
    → HandsIn (s.seats m) (next.seats m)
    → (h : Ghost) × Goes p s next g h m × Holds p new next h
hands-in p new s next g m holds others sent x = (
  h,
  go,
  holds-on p new s next g h m holds go run (record {
    sits = subst (λ y. Sits p next.seats h m y) (sym x.made) (record {
      stands = o.stands;
      lists = ap (λ q. q.lists) own ∙ o.lists;
      long = ap (λ q. q.long) own ∙ o.long;
      hands = λ k. hand-on g.wire h.wire (s.seats k).log (next.seats k).log k ((s.seats m).hands k) quiet.goes.given
          (logs-alike s next m others (ap (λ y. y.log) x.made) k) (o.hands k);
      handed = λ n e. (
        (s.seats m).log.bytes,
        (
          record {
            content = (s.seats m).log.content;
            stands = o.stands;
            size = same_Some _ _ e;
            given = subst (λ y. Contains h.wire.given y) (this n (same_Some _ _ e)) (Contains-push _ _);
          },
          prefix_refl (s.seats m).log.bytes,
        ),
      );
      gathers = λ n rest e none. record {
        waits = ap (λ q. q.tries) own;
        handed = ap (λ q. q.handed) own ∙ ap Some o.long ∙ e;
        long = sym (same_Some _ _ e);
      };
      tries = λ t rest e none. absurd (none-some t (sym x.gathers ∙ e));
      runs = λ a e. let r = o.runs a e in absurd (none-some r.0 (sym x.gathers ∙ r.1));
      told = λ t e. absurd (none-some t (sym x.gathers ∙ e));
      due = λ written e. absurd (none-some written (sym x.rest.0 ∙ e));
      left = λ written n e none f. none-some written (sym x.rest.0 ∙ e);
      opens = λ e. absurd (cc (x.rest.1, e));
    });
    ages = λ c d. inl d;
    ups = λ k c up. inl up;
    idle = λ v c i. holds.idle v m c (was v.call i);
    sent = sent;
  }),
)
  where
    o : Sits p s.seats g m (s.seats m)
    o = holds.sits m

    sit : Sitting
    sit = record (s.seats m) { handed = Some (long_of (s.seats m).log) }

    left-place : Place
    left-place = record {
      lists = (g.wire.places m).lists;
      long = (g.wire.places m).long;
      handed = None;
      tries = None;
    }

    middle : Wire
    middle = placed g.wire m left-place

    here : middle.places m ≡ left-place
    here = put-own g.wire.places m left-place

    place : Place
    place = record {
      lists = (middle.places m).lists;
      long = (middle.places m).long;
      handed = Some (middle.places m).long;
      tries = None;
    }

    given : Given
    given = record { member = m; long = (middle.places m).long; lists = (middle.places m).lists }

    h : Ghost
    h = record {
      wire = record {
        places = put middle.places m place;
        given = g.wire.given ++ given ∷ [];
        votes = g.wire.votes;
        ages = g.wire.ages;
      };
      apart = g.apart;
      ups = g.ups;
    }

    leaving : WireLeaves g.wire middle
    leaving = record {
      member = m;
      comes = record { own = here; others = λ k n. put-other g.wire.places m left-place k n };
      given = refl;
      votes = refl;
      ages = refl;
    }

    handing : WireHandsIn middle h.wire
    handing = record {
      member = m;
      waits = ap (λ q. q.tries) here;
      comes = record { own = put-own middle.places m place; others = λ k n. put-other middle.places m place k n };
      given = refl;
      votes = refl;
      ages = refl;
    }

    quiet : IsQuiet g.wire h.wire m
    quiet = quiet-both g.wire middle h.wire m (leaves-goes g.wire middle leaving)
        (hands-in-goes middle h.wire handing)

    run : IsRunSince (opening_of p) (new_wire new) h.wire
    run = run-on (opening_of p) (new_wire new) middle h.wire
        (run-on (opening_of p) (new_wire new) g.wire middle holds.run (inr (inr (inr (inl leaving))))) (inl handing)

    go : Goes p s next g h m
    go = quiet-goes p s next g h m quiet (λ v. refl) refl others (ap (λ y. y.log) x.made)

    own : h.wire.places m ≡ record (record (g.wire.places m) { handed = Some (g.wire.places m).long })
        { tries = None }
    own = put-own middle.places m place ∙ (λ z. record {
      lists = (here z).lists;
      long = (here z).long;
      handed = Some (here z).long;
      tries = None;
    })

    this : (n : ℕ) → long_of (s.seats m).log ≡ n
        → given ≡ record { member = m; long = n; lists = as_lists (s.seats m).log.content }
    this n e = λ z. record {
      member = m;
      long = (ap (λ q. q.long) here ∙ o.long ∙ e) z;
      lists = (ap (λ q. q.lists) here ∙ o.lists) z;
    }

    was : (c : Called) → IsIdle next h c m → IsIdle s g c m
    was c (inl none) = inl none
    was c (inr r) = inr (
      ap (λ y. y.age) (sym x.made) ∙ r.0,
      (r.1.0, ap (λ y. y.try) (sym x.made) ∙ r.1.1, r.1.2),
    )

-- ---- its member begins

pub begins : (p : Plan) (new s next : Seats) (g : Ghost) (m : ℕ) → Holds p new s g
    → ((k : ℕ) → (k ≡ m → ⊥) → next.seats k ≡ s.seats k) → next.sent ≡ s.sent → m < p.script.members
    → Begins p.script m (s.seats m) (next.seats m)
    → (h : Ghost) × Goes p s next g h m × Holds p new next h
begins p new s next g m holds others sent within x = (
  h,
  go,
  holds-on p new s next g h m holds go run (record {
    sits = subst (λ y. Sits p next.seats h m y) (sym x.made) (record {
      stands = o.stands;
      lists = o.lists;
      long = o.long;
      hands = λ k. hand-on g.wire h.wire (s.seats k).log (next.seats k).log k ((s.seats m).hands k) (λ y c. c)
          (logs-alike s next m others (ap (λ y. y.log) x.made) k) (o.hands k);
      handed = λ n e. let b = o.handed n e in (
        b.0,
        (
          record {
            content = b.1.0.content;
            stands = b.1.0.stands;
            size = b.1.0.size;
            given = b.1.0.given;
          },
          b.1.1,
        ),
      );
      gathers = λ n rest e none. absurd (none-some x.try (sym none ∙ x.tries));
      tries = λ t rest e none. absurd (none-some a (sym none));
      runs = λ b e. (
        x.try,
        x.tries,
        subst (λ y. IsRunning h m (s.seats m).log.content x.try y)
            (same_Some a b e) running,
      );
      told = λ t e. let old = o.told t e in record {
        voted = λ k d. voted-on g.wire h.wire k (called t.call) (λ v c. c) (old.voted k d);
        up = old.up;
      };
      due = λ written e. absurd (none-some written (sym x.rest.0 ∙ e));
      left = λ written n e none f. none-some written (sym x.rest.0 ∙ e);
      opens = λ e. absurd (cc (x.rest.1, e));
    });
    ages = λ c d. ⊎_elim inl (λ e. inr (λ k inside. subst (λ y. HasRisen h k y) e (told.up k
        (subst (λ n. has n k ≡ true) (sym x.all) (subst (λ y. has y.set k ≡ true) (sym e) inside)))))
        (Contains-push_cases g.wire.ages (called x.try.call) c d);
    ups = λ k c up. inl up;
    idle = λ v c i. holds.idle v m c (was v.call i);
    sent = sent;
  }),
)
  where
    o : Sits p s.seats g m (s.seats m)
    o = holds.sits m

    a : InAge
    a = record { door = x.door; batch = [] }

    told : HaveTold g x.try
    told = o.told x.try x.tries

    trying : IsTrying g m (s.seats m).log.content x.try
    trying = o.tries x.try x.rest.0 x.tries x.no_age

    up : IsUp g m trying.vote.call × ((s.seats m).log.content.entries
        ≡ trying.vote.start.entries ++ first_view_of trying.vote.start ∷ [])
    up = ⊎_elim (λ r. absurd (cc (r.0, x.up))) (λ r. (holds.ups m trying.vote.call r.1, r.2)) trying.step

    h : Ghost
    h = record {
      wire = record {
        places = g.wire.places;
        given = g.wire.given;
        votes = g.wire.votes;
        ages = g.wire.ages ++ called x.try.call ∷ [];
      };
      apart = g.apart;
      ups = g.ups;
    }

    beginning : WireBegins g.wire h.wire
    beginning = record {
      call = called x.try.call;
      opened = subst (λ c. IsOpened g.wire c) trying.call up.0.opened;
      places = λ k. refl;
      given = refl;
      votes = refl;
      ages = refl;
    }

    quiet : IsQuiet g.wire h.wire m
    quiet = begins-goes g.wire h.wire m beginning

    run : IsRunSince (opening_of p) (new_wire new) h.wire
    run = run-on (opening_of p) (new_wire new) g.wire h.wire holds.run (inr (inr (inr (inr (inl beginning)))))

    go : Goes p s next g h m
    go = quiet-goes p s next g h m quiet (λ v. refl) refl others (ap (λ y. y.log) x.made)

    keeps : Keeps (opening_of p) (new_wire new) g.wire
    keeps = kept-of (opening_of p) (new_wire new) g.wire holds.run

    mine : Contains g.wire.votes trying.vote
    mine = (keeps.last m trying.vote trying.tries).0

    there : HasDoor h m trying.vote.call x.door
    there v c e =
        let start : v.start ≡ trying.vote.start =
        same-start (opening_of p) (new_wire new) g.wire keeps v trying.vote c mine e in
        holds.idle v m c (inr (x.no_age, (x.try, x.tries, sym trying.call ∙ sym e)))
        ∙ ap (λ st. present_at (fresh p st).doors m) (start ∙ trying.start)
        ∙ fresh-there p x.try.start m within (subst (λ st. has st.present m ≡ true) trying.start
        (subst (λ n. has n m ≡ true) (sym (keeps.cast trying.vote mine).present) up.0.inside))
        ∙ ap Some (sym (one-fresh p x.try.start m x.door x.begun))

    running : IsRunning h m (s.seats m).log.content x.try a
    running = record {
      vote = trying.vote;
      tries = trying.tries;
      call = trying.call;
      start = trying.start;
      step = x.up;
      began = subst (λ c. Contains h.wire.ages c) (sym trying.call) (Contains-push _ _);
      door = there;
      batch = λ v c e y d. absurd (omega (arith, d.1));
      served = record {
        base = (s.seats m).log.content;
        earlier = λ y c. earlier-votes (opening_of p) (new_wire new) g.wire keeps trying.vote mine y
            (subst (λ l. Contains l y) trying.votes c);
        just = subst (λ d. HasJustLogged (s.seats m).log.content d.member.replica (s.seats m).log.content)
            (sym (one-fresh p x.try.start m x.door x.begun))
            (fresh-just p x.try.start m (s.seats m).log.content
            (subst (λ st. (s.seats m).log.content.entries ≡ st.entries ++ first_view_of st ∷ []) trying.start up.1));
      };
    }

    was : (c : Called) → IsIdle next h c m → IsIdle s g c m
    was c (inl none) = inl none
    was c (inr r) = absurd (none-some a (sym (ap (λ y. y.age) (sym x.made) ∙ r.0)))
