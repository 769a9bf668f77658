-- What comes of the wire and of the doors where an append is on a log.
use Rattle.std.proofs.Common.{◌≡◌, refl, ap, sym, ◌∙◌, ◌⊎◌, inl, inr, subst, ℕ, ◌+◌, ◌<◌, ◌≤◌, arith, true, List, [], ◌∷◌, ◌++◌, Contains, Some, ⊎_elim}
use Rattle.dr_calls.specs.Wire.{Called, IsRunSince, Rises as WireRises, Runs as WireRuns, Voted, Votes as WireVotes, Wire, moment, vote_of}
use Rattle.dr_calls.proofs.{Between.Keeps, Lasting.kept-of}
use Rattle.dr_door.specs.{Apart.{IsRanApart, with_door}, Begun.begun_lone, Lone.{Lone, went_on}}
use Rattle.dr_door.proofs.Apart.{doors_kept, there_is}
use Rattle.dr_door_logs.specs.Leaving.{IsLogOfDoor}
use Rattle.dr_entry.specs.declared.record.Vote.{Vote}
use Rattle.dr_history.specs.{History.IsPrefixOf, Members.has}
use Rattle.dr_kept.specs.Leaving.{HasJustLogged}
use Rattle.dr_member.specs.Deeds.{is_append}
use Rattle.dr_opening.specs.Lists.{as_lists}
use Rattle.dr_program.specs.{Form.IsRunningMember, Presence.present_at}
use Rattle.dr_program.proofs.Present.{present_kept, present_set, present_within}
use Rattle.dr_restart.specs.{Choosing.of_set, Trying.{age_vote_of, first_view_of}}
use Rattle.dr_restart.{specs.declared.lists.LogLists.LogLists, proofs.Sounding.choice-group}
use Rattle.dr_seat_laws.specs.Seats.{Seats}
use Rattle.dr_seat_laws.specs.Sitting.{HasGrown, Trying, Written, long_of}
use Rattle.dr_seat_laws.proofs.Calls.{earlier-votes, same-start}
use Rattle.dr_seat_laws.proofs.Coming.{grown-front, grown-longer, placed, raised-place, rise-step, run-place, run-step, vote-step, voted-place, voted-wire}
use Rattle.dr_seat_laws.proofs.Doors.{just-append}
use Rattle.dr_seat_laws.proofs.Fresh.{Plan, fresh, fresh-begun, fresh-just, fresh-there, setup_for}
use Rattle.dr_seat_laws.proofs.Growing.{Goes, opened-on}
use Rattle.dr_seat_laws.proofs.Holding.{Ghost, HasRisen, Holds, IsServed, IsUp, RiseDue, Risen, RunDue, VoteDue, called, new_wire, opening_of}
use Rattle.dr_seat_laws.proofs.Putting.{put-own}
use Rattle.dr_seat_laws.proofs.Touching.{begun-at, begun-in, begun-out, same-calls, touched, touched-in, touched-out}
use Rattle.dr_seat_laws.proofs.Wires.{IsLonger, IsVote, moment-now, rises-goes, run-on, runs-goes, votes-goes}

-- the door of a seat has the form of one that has run since its age opened
pub form-of : (p : Plan) (new s : Seats) (g : Ghost) → Holds p new s g → (v : Voted) → Contains g.wire.votes v
    → (m : ℕ) (d : Lone) → present_at (g.apart v).doors m ≡ Some d → IsRunningMember d.member
form-of p new s g holds v c m d there =
    let cast = (kept-of (opening_of p) (new_wire new) g.wire holds.run).cast v c in
    let so = doors_kept p.script v.start 0 (fresh p v.start) (g.apart v)
    (choice-group p.script (of_set v.logs v.call.set) v.start p.ranges cast.chosen) p.ranges.lists p.turns
    (fresh-begun p v.start) (holds.ran v c) in
    so.1.carried.form.form m d.member (there_is _ (g.apart v) so.0 m d so.1 there)

-- this has come to the log of member m
pub record Comes (p : Plan) (new s next : Seats) (g h : Ghost) (m : ℕ) (log : Written) : Type 0 where
  pub go : Goes p s next g h m
  pub run : IsRunSince (opening_of p) (new_wire new) h.wire
  pub ages : h.wire.ages ≡ g.wire.ages
  pub lists : (h.wire.places m).lists ≡ as_lists log.content
  pub long : (h.wire.places m).long ≡ long_of log

-- what is known of a seat whose append is done
pub record IsComing (p : Plan) (new s next : Seats) (g : Ghost) (m : ℕ) (log : Written) : Type 0 where
  pub holds : Holds p new s g
  pub others : (k : ℕ) → (k ≡ m → ⊥) → next.seats k ≡ s.seats k
  pub grown : HasGrown (s.seats m).log log
  pub is : (next.seats m).log ≡ log

module _ (p : Plan) (new s next : Seats) (g : Ghost) (m : ℕ) (log : Written)
    (k : IsComing p new s next g m log) where
  longer : (g.wire.places m).long < long_of log
  longer = omega (arith, (k.holds.sits m).long, grown-longer (s.seats m).log log k.grown)

  front : IsPrefixOf (s.seats m).log.bytes (next.seats m).log.bytes
  front = subst (λ l. IsPrefixOf (s.seats m).log.bytes l.bytes) (sym k.is) (grown-front (s.seats m).log log k.grown)

  pub keeps : Keeps (opening_of p) (new_wire new) g.wire
  keeps = kept-of (opening_of p) (new_wire new) g.wire k.holds.run

  -- ---- a vote

  module _ (x : VoteDue (opening_of p) g m (s.seats m).log.content (s.seats m).try (s.seats m).age log) where
    abbrev pub vote-cast : Voted
    vote-cast = vote_of g.wire m x.call x.logs x.start

    abbrev pub after-vote : Ghost
    after-vote = record {
      wire = voted-wire (opening_of p) g m (s.seats m).log.content (s.seats m).try (s.seats m).age log x;
      apart = begun-at x.call m (λ v. fresh p v.start) g.apart;
      ups = g.ups;
    }

    abbrev step-vote : WireVotes (opening_of p) g.wire after-vote.wire
    step-vote = vote-step (opening_of p) g m (s.seats m).log.content (s.seats m).try (s.seats m).age log x longer

    pub is-vote : IsVote g.wire after-vote.wire m vote-cast
    unfolding longer
    is-vote = votes-goes (opening_of p) (new_wire new) g.wire after-vote.wire k.holds.run step-vote

    pub same-vote : (v : Voted) → Contains g.wire.votes v → after-vote.apart v ≡ g.apart v
    same-vote v c = begun-out x.call m (λ u. fresh p u.start) g.apart v
        (λ e f. omega (arith, is-vote.above v c f, ap (λ y. y.age) e))

    up-vote : (c : Called) → IsUp g m c → IsUp after-vote m c
    up-vote c up = record {
      inside = up.inside;
      opened = opened-on g.wire after-vote.wire c is-vote.goes.votes up.opened;
      left = λ v d e. by v e (is-vote.one v d);
    }
      where
        by : (v : Voted) → v.call ≡ c → Contains g.wire.votes v ⊎ (vote-cast ≡ v)
            → IsLogOfDoor v.start.age (after-vote.apart v) m (moment after-vote.wire (c.age + 1) m)
        by v e (inl old) =
            let l = up.left v old e in
            let u = up.opened m up.inside in record {
              door = l.door;
              there = ap (λ a. present_at a.doors m) (same-vote v old) ∙ l.there;
              base = l.base;
              earlier = l.earlier;
              found = l.found;
              left = l.left;
              is = subst (λ n. moment after-vote.wire (n + 1) m ≡ moment g.wire (n + 1) m) (ap (λ y. y.age) u.3)
                  (is-vote.still u.0 u.1 u.2) ∙ l.is;
            }
        by v e (inr f) =
            let u = up.opened m up.inside in
            absurd (omega (
              arith,
              is-vote.above u.0 u.1 u.2,
              ap (λ y. y.age) u.3,
              ap (λ y. y.age) e,
              ap (λ y. y.call.age) f,
            ))

    pub vote-comes : Comes p new s next g after-vote m log
    vote-comes = record {
      go = record {
        wire = is-vote.goes;
        seats = k.others;
        log = front;
        doors = λ v j c n. ap (λ a. present_at a.doors j) (same-vote v c);
        ran = λ v c. ([], same-vote v c);
        fresh = λ v c. ⊎_elim inl (λ e. inr (begun-in x.call m (λ u. fresh p u.start) g.apart v
            (ap (λ y. y.call) (sym e)) (ap (λ y. y.member) (sym e)))) (is-vote.one v c);
        ups = λ y c. c;
        risen = λ j c up. inl up;
        up = λ c risen up. up-vote c up;
      };
      run = run-on (opening_of p) (new_wire new) g.wire after-vote.wire k.holds.run (inr (inl step-vote));
      ages = refl;
      lists = ap (λ q. q.lists) (put-own g.wire.places m (voted-place (opening_of p) g m (s.seats m).log.content
          (s.seats m).try (s.seats m).age log x)) ∙ ap (λ (l : LogLists). record l {
            age_votes = l.age_votes ++ age_vote_of x.start ∷ [];
          }) (k.holds.sits m).lists ∙ sym x.content;
      long = ap (λ q. q.long) (put-own g.wire.places m (voted-place (opening_of p) g m (s.seats m).log.content
          (s.seats m).try (s.seats m).age log x));
    }

  -- ---- a cut, or the start

  module _ (x : RiseDue g m (s.seats m).log.content (s.seats m).try (s.seats m).age log) where
    abbrev pub raised-wire : Wire
    raised-wire = placed g.wire m (raised-place g m (s.seats m).log.content (s.seats m).try (s.seats m).age log x)

    here-raised : raised-wire.places m
        ≡ raised-place g m (s.seats m).log.content (s.seats m).try (s.seats m).age log x
    here-raised = put-own g.wire.places m (raised-place g m (s.seats m).log.content (s.seats m).try
        (s.seats m).age log x)

    abbrev step-rise : WireRises g.wire raised-wire
    step-rise = rise-step g m (s.seats m).log.content (s.seats m).try (s.seats m).age log x longer

    is-rise : IsLonger g.wire raised-wire m x.vote
    is-rise = rises-goes (opening_of p) (new_wire new) g.wire raised-wire k.holds.run step-rise

    run-rise : IsRunSince (opening_of p) (new_wire new) raised-wire
    run-rise = run-on (opening_of p) (new_wire new) g.wire raised-wire k.holds.run (inr (inr (inl step-rise)))

    -- with these that have risen
    abbrev pub after-rise : List Risen → Ghost
    after-rise ups = record { wire = raised-wire; apart = g.apart; ups = ups }

    up-rise : (ups : List Risen) (c : Called) → HasRisen g m c → IsUp g m c → IsUp (after-rise ups) m c
    up-rise ups c risen up = by (is-rise.still u.0 u.1 u.2)
      where
        u : (y : Voted) × Contains g.wire.votes y × (y.member ≡ m) × (y.call ≡ c)
        u = up.opened m up.inside

        by : (u.0.call ≡ x.vote.call) ⊎ (moment raised-wire (u.0.call.age + 1) m ≡ moment g.wire (u.0.call.age + 1) m)
            → IsUp (after-rise ups) m c
        by (inl e) = absurd (x.below (subst (λ y. HasRisen g m y) (sym u.3 ∙ e) risen))
        by (inr e) = record {
          inside = up.inside;
          opened = up.opened;
          left = λ v d f. let l = up.left v d f in record {
            door = l.door;
            there = l.there;
            base = l.base;
            earlier = l.earlier;
            found = l.found;
            left = l.left;
            is = subst (λ n. moment raised-wire (n + 1) m ≡ moment g.wire (n + 1) m) (ap (λ y. y.age) u.3) e ∙ l.is;
          };
        }

    lists-raised : (raised-wire.places m).lists ≡ as_lists log.content
    lists-raised = ap (λ q. q.lists) here-raised ∙ (λ z. record {
      entries = log.content.entries;
      votes = (ap (λ l. l.votes) (k.holds.sits m).lists ∙ sym x.stay) z;
      age_votes = (ap (λ l. l.age_votes) (k.holds.sits m).lists ∙ sym x.age_votes) z;
    })

    pub rise-comes : (ups : List Risen) → ((y : Risen) → Contains g.ups y → Contains ups y)
        → ((j : ℕ) (c : Called) → Contains ups (record { member = j; call = c }) → HasRisen g j c ⊎ (j ≡ m))
        → Comes p new s next g (after-rise ups) m log
    rise-comes ups more only = record {
      go = record {
        wire = is-rise.goes;
        seats = k.others;
        log = front;
        doors = λ v j c n. refl;
        ran = λ v c. ([], refl);
        fresh = λ v c. inl c;
        ups = more;
        risen = only;
        up = up-rise ups;
      };
      run = run-rise;
      ages = refl;
      lists = lists-raised;
      long = ap (λ q. q.long) here-raised;
    }

    pub tries-raised : (raised-wire.places m).tries ≡ Some x.vote
    tries-raised = ap (λ q. q.tries) here-raised

    -- it is up then
    pub up-raised : (ups : List Risen) → m < p.script.members → (t : Trying) → (s.seats m).try ≡ Some t
        → x.vote.call ≡ called t.call
        → log.content.entries ≡ x.vote.start.entries ++ first_view_of x.vote.start ∷ []
        → IsUp (after-rise ups) m x.vote.call
    up-raised ups within t tries call entries = record {
      inside = inside;
      opened = x.opened;
      left = λ v d e. let start = same-start (opening_of p) (new_wire new) g.wire keeps v x.vote d mine e in record {
        door = begun_lone (setup_for p v.start m);
        there = k.holds.idle v m d (inr (x.no_age, (t, tries, sym call ∙ sym e)))
            ∙ fresh-there p v.start m within (subst (λ n. has n m ≡ true) (sym (keeps.cast v d).present)
            (subst (λ c. has c.set m ≡ true) (sym e) inside));
        base = log.content;
        earlier = λ y c. subst (λ st. y.age < st.age) (sym start)
            (earlier-votes (opening_of p) (new_wire new) g.wire keeps x.vote mine y
            (subst (λ l. Contains l y) x.votes c));
        found = log.content;
        left = inl (fresh-just p v.start m log.content
            (subst (λ st. log.content.entries ≡ st.entries ++ first_view_of st ∷ []) (sym start) entries));
        is = moment-now (opening_of p) (new_wire new) raised-wire run-rise m x.vote tries-raised
            ∙ lists-raised;
      };
    }
      where
        last : Contains g.wire.votes x.vote × (x.vote.member ≡ m)
            × ((u : Voted) → Contains g.wire.votes u → u.member ≡ m → u.call.age ≤ x.vote.call.age)
        last = keeps.last m x.vote x.tries

        mine : Contains g.wire.votes x.vote
        mine = last.0

        inside : has x.vote.call.set m ≡ true
        inside = subst (λ n. has x.vote.call.set n ≡ true) last.1 (keeps.cast x.vote mine).inside

  -- ---- what a door appends

  module _ (x : RunDue g m (s.seats m).log.content (s.seats m).try (s.seats m).age log) where
    abbrev pub run-wire : Wire
    run-wire = placed g.wire m (run-place g m (s.seats m).log.content (s.seats m).try (s.seats m).age log x)

    here-run : run-wire.places m ≡ run-place g m (s.seats m).log.content (s.seats m).try (s.seats m).age log x
    here-run = put-own g.wire.places m (run-place g m (s.seats m).log.content (s.seats m).try (s.seats m).age log x)

    abbrev step-run : WireRuns g.wire run-wire
    step-run = run-step g m (s.seats m).log.content (s.seats m).try (s.seats m).age log x
        (k.holds.sits m).lists longer

    is-run : IsLonger g.wire run-wire m x.vote
    is-run = runs-goes (opening_of p) (new_wire new) g.wire run-wire k.holds.run step-run

    run-run : IsRunSince (opening_of p) (new_wire new) run-wire
    run-run = run-on (opening_of p) (new_wire new) g.wire run-wire k.holds.run
        (inr (inr (inr (inr (inr step-run)))))

    lists-run : (run-wire.places m).lists ≡ as_lists log.content
    lists-run = ap (λ q. q.lists) here-run

    pub tries-run : (run-wire.places m).tries ≡ Some x.vote
    tries-run = ap (λ q. q.tries) here-run

    pub mine-run : Contains g.wire.votes x.vote
    mine-run = (keeps.last m x.vote x.tries).0

    start-run : (v : Voted) → Contains g.wire.votes v → v.call ≡ x.vote.call → v.start ≡ x.vote.start
    start-run v c e = same-start (opening_of p) (new_wire new) g.wire keeps v x.vote c mine-run e

    -- where its member has left the age the record stands there besides
    abbrev pub after-left : Ghost
    after-left = record { wire = run-wire; apart = g.apart; ups = g.ups }

    -- else its door goes on
    abbrev pub after-run : Ghost
    after-run = record {
      wire = run-wire;
      apart = touched x.vote.call (λ a. with_door a m (went_on x.door)) g.apart;
      ups = g.ups;
    }

    now-run : (c : Called) → c ≡ x.vote.call → moment run-wire (c.age + 1) m ≡ as_lists log.content
    now-run c e = ap (λ y. moment run-wire (y.age + 1) m) e
        ∙ moment-now (opening_of p) (new_wire new) run-wire run-run m x.vote tries-run ∙ lists-run

    still-run : (c : Called) → (c ≡ x.vote.call → ⊥) → IsUp g m c
        → moment run-wire (c.age + 1) m ≡ moment g.wire (c.age + 1) m
    still-run c n up =
        let u = up.opened m up.inside in
        ⊎_elim (λ e. absurd (n (sym u.3 ∙ e)))
        (λ e. subst (λ i. moment run-wire (i + 1) m ≡ moment g.wire (i + 1) m) (ap (λ y. y.age) u.3) e)
        (is-run.still u.0 u.1 u.2)

    just-run : HasJustLogged x.served.base (went_on x.door).member.replica log.content
    just-run = subst (λ l. HasJustLogged x.served.base (went_on x.door).member.replica l) (sym x.content)
        (just-append x.served.base x.door.member x.what (s.seats m).log.content x.due
        (form-of p new s g k.holds x.vote mine-run m x.door (x.there x.vote mine-run refl)) x.served.just)

    earlier-run : (v : Voted) → Contains g.wire.votes v → v.call ≡ x.vote.call → (y : Vote)
        → Contains x.served.base.votes y → y.age < v.start.age
    earlier-run v c e y d = subst (λ st. y.age < st.age) (sym (start-run v c e)) (x.served.earlier y d)

    up-left : (c : Called) → IsUp g m c → IsUp after-left m c
    up-left c up = by (same-calls c x.vote.call)
      where
        by : (c ≡ x.vote.call) ⊎ (c ≡ x.vote.call → ⊥) → IsUp after-left m c
        by (inl e) = record {
          inside = up.inside;
          opened = up.opened;
          left = λ v d f. record {
            door = x.door;
            there = x.there v d (f ∙ e);
            base = x.served.base;
            earlier = earlier-run v d (f ∙ e);
            found = log.content;
            left = inr (record {
              next = x.what;
              due = x.due;
              before = (s.seats m).log.content;
              logged = x.served.just;
              is = x.content;
            });
            is = now-run c e;
          };
        }
        by (inr n) = record {
          inside = up.inside;
          opened = up.opened;
          left = λ v d f. let l = up.left v d f in record {
            door = l.door;
            there = l.there;
            base = l.base;
            earlier = l.earlier;
            found = l.found;
            left = l.left;
            is = still-run c n up ∙ l.is;
          };
        }

    pub left-comes : Comes p new s next g after-left m log
    left-comes = record {
      go = record {
        wire = is-run.goes;
        seats = k.others;
        log = front;
        doors = λ v j c n. refl;
        ran = λ v c. ([], refl);
        fresh = λ v c. inl c;
        ups = λ y c. c;
        risen = λ j c up. inl up;
        up = λ c risen up. up-left c up;
      };
      run = run-run;
      ages = refl;
      lists = lists-run;
      long = ap (λ q. q.long) here-run;
    }

    -- ---- while it runs

    pub door-run : (v : Voted) → Contains g.wire.votes v → v.call ≡ x.vote.call
        → present_at (after-run.apart v).doors m ≡ Some (went_on x.door)
    door-run v c e = ap (λ a. present_at a.doors m) (touched-in x.vote.call
        (λ a. with_door a m (went_on x.door)) g.apart v e)
        ∙ present_set (g.apart v).doors m (went_on x.door) (present_within (g.apart v).doors m x.door (x.there v c e))

    ran-run : (v : Voted) → Contains g.wire.votes v → IsRanApart (g.apart v) (after-run.apart v)
    ran-run v c = by (same-calls v.call x.vote.call)
      where
        by : (v.call ≡ x.vote.call) ⊎ (v.call ≡ x.vote.call → ⊥) → IsRanApart (g.apart v) (after-run.apart v)
        by (inl e) = (
          g.apart v ∷ [],
          (
            refl,
            inr (inr (inl (record {
              number = m;
              door = x.door;
              there = x.there v c e;
              due = ap is_append x.due;
              made = touched-in x.vote.call (λ a. with_door a m (went_on x.door)) g.apart v e;
            }))),
          ),
        )
        by (inr n) = ([], touched-out x.vote.call (λ a. with_door a m (went_on x.door)) g.apart v n)

    others-run : (v : Voted) (j : ℕ) → (j ≡ m → ⊥)
        → present_at (after-run.apart v).doors j ≡ present_at (g.apart v).doors j
    others-run v j n = by (same-calls v.call x.vote.call)
      where
        by : (v.call ≡ x.vote.call) ⊎ (v.call ≡ x.vote.call → ⊥)
            → present_at (after-run.apart v).doors j ≡ present_at (g.apart v).doors j
        by (inl e) = ap (λ a. present_at a.doors j)
            (touched-in x.vote.call (λ a. with_door a m (went_on x.door)) g.apart v e)
            ∙ present_kept (g.apart v).doors m j (went_on x.door) n
        by (inr d) = ap (λ a. present_at a.doors j)
            (touched-out x.vote.call (λ a. with_door a m (went_on x.door)) g.apart v d)

    up-run : (c : Called) → IsUp g m c → IsUp after-run m c
    up-run c up = by (same-calls c x.vote.call)
      where
        by : (c ≡ x.vote.call) ⊎ (c ≡ x.vote.call → ⊥) → IsUp after-run m c
        by (inl e) = record {
          inside = up.inside;
          opened = up.opened;
          left = λ v d f. record {
            door = went_on x.door;
            there = door-run v d (f ∙ e);
            base = x.served.base;
            earlier = earlier-run v d (f ∙ e);
            found = log.content;
            left = inl just-run;
            is = now-run c e;
          };
        }
        by (inr n) = record {
          inside = up.inside;
          opened = up.opened;
          left = λ v d f. let l = up.left v d f in record {
            door = l.door;
            there = ap (λ a. present_at a.doors m) (touched-out x.vote.call
                (λ a. with_door a m (went_on x.door)) g.apart v
                (λ h. n (sym f ∙ h))) ∙ l.there;
            base = l.base;
            earlier = l.earlier;
            found = l.found;
            left = l.left;
            is = still-run c n up ∙ l.is;
          };
        }

    pub run-comes : Comes p new s next g after-run m log
    run-comes = record {
      go = record {
        wire = is-run.goes;
        seats = k.others;
        log = front;
        doors = λ v j c n. others-run v j n;
        ran = ran-run;
        fresh = λ v c. inl c;
        ups = λ y c. c;
        risen = λ j c up. inl up;
        up = λ c risen up. up-run c up;
      };
      run = run-run;
      ages = refl;
      lists = lists-run;
      long = ap (λ q. q.long) here-run;
    }

    pub served-run : (v : Voted) → v.start ≡ x.vote.start → IsServed v.start.age (went_on x.door) log.content
    served-run v e = record {
      base = x.served.base;
      earlier = λ y d. subst (λ st. y.age < st.age) (sym e) (x.served.earlier y d);
      just = just-run;
    }
