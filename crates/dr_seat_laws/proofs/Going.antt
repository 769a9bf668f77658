-- The door of a seat goes on.
use Rattle.std.proofs.Common.{◌≡◌, refl, ap, sym, ◌∙◌, ◌⊎◌, inl, inr, subst, ℕ, ◌+◌, ◌<◌, true, [], Contains, Some, ⊎_elim}
use Rattle.std.proofs.lemmas.{Option.{none-some, same_Some}}
use Rattle.dr_calls.specs.Wire.{Called, Voted, moment}
use Rattle.dr_calls.proofs.{Between.Keeps, Lasting.kept-of}
use Rattle.dr_door.specs.Apart.{Apart, IsRanApart, with_door}
use Rattle.dr_door.specs.Lone.{Lone}
use Rattle.dr_entry.specs.declared.record.Record.{Record}
use Rattle.dr_history.{specs.{History.{IsPrefixOf}, Members.has}, proofs.Lists.prefix_refl}
use Rattle.dr_kept.specs.Leaving.{HasJustLogged}
use Rattle.dr_log_bytes.specs.Content.{OnLog}
use Rattle.dr_program.specs.{Form.IsRunningMember, Presence.{present_at}, Running.{next_deed}}
use Rattle.dr_program.specs.declared.{packet.Packet.Packet}
use Rattle.dr_program.specs.declared.deed.Deed.TheVariants as deeds
use Rattle.dr_program.proofs.Present.{present_kept, present_set, present_within}
use Rattle.dr_seat_laws.specs.Seats.{Seats}
use Rattle.dr_seat_laws.specs.Sitting.{InAge, Trying, Written}
use Rattle.dr_seat_laws.proofs.{Calls.same-start, Fresh.{Plan, fresh}}
use Rattle.dr_seat_laws.proofs.Growing.{Goes, hand-on, holds-on, log-grows, told-on}
use Rattle.dr_seat_laws.proofs.Holding.{Ghost, HasDoor, Holds, IsDue, IsIdle, IsRunning, IsUp, Sits, called, new_wire, opening_of}
use Rattle.dr_seat_laws.proofs.{Settled.GoesOn, Settling.form-of}
use Rattle.dr_seat_laws.proofs.Touching.{same-calls, touched, touched-in, touched-out}
use Rattle.dr_seat_laws.proofs.Wires.{moment-now, wire-stays}

-- the member of a seat runs in the age of this call
pub record RunsOn (p : Plan) (new s next : Seats) (g : Ghost) (m : ℕ) (a : InAge) : Type 0 where
  pub holds : Holds p new s g
  pub others : (k : ℕ) → (k ≡ m → ⊥) → next.seats k ≡ s.seats k
  pub sent : next.sent ≡ s.sent
  pub runs : (s.seats m).age ≡ Some a

module _ (p : Plan) (new s next : Seats) (g : Ghost) (m : ℕ) (a : InAge) (k : RunsOn p new s next g m a) where
  try-of : (t : Trying) × ((s.seats m).try ≡ Some t) × IsRunning g m (s.seats m).log.content t a
  try-of = (k.holds.sits m).runs a k.runs

  -- the call in whose age it runs
  pub call-of : Called
  call-of = try-of.2.vote.call

  pub call-of-try : (t : Trying) → (s.seats m).try ≡ Some t → called t.call ≡ call-of
  unfolding call-of
  call-of-try t e = ap (λ x. called x.call) (same_Some _ _ (sym e ∙ try-of.1)) ∙ sym try-of.2.call

  pub began-of : Contains g.wire.ages call-of
  unfolding call-of
  began-of = try-of.2.began

  pub door-of : HasDoor g m call-of a.door
  unfolding call-of
  door-of = try-of.2.door

  pub batch-of : (v : Voted) → Contains g.wire.votes v → v.call ≡ call-of → (y : Packet) → Contains a.batch y
      → Contains (g.apart v).sent y
  unfolding call-of
  batch-of = try-of.2.batch

  pub inside-of : has call-of.set m ≡ true
  unfolding call-of
  inside-of =
      let keeps = kept-of (opening_of p) (new_wire new) g.wire k.holds.run in
      let last = keeps.last m try-of.2.vote try-of.2.tries in
      subst (λ n. has try-of.2.vote.call.set n ≡ true) last.1 (keeps.cast try-of.2.vote last.0).inside

  pub form-here : IsRunningMember a.door.member
  unfolding call-of
  form-here =
      let keeps = kept-of (opening_of p) (new_wire new) g.wire k.holds.run in
      let mine = (keeps.last m try-of.2.vote try-of.2.tries).0 in
      form-of p new s g k.holds try-of.2.vote mine m a.door (try-of.2.door try-of.2.vote mine refl)

  -- what its door does, and what that makes of the doors of its age
  pub record Moves (b : InAge) : Type 0 where
    pub f : Apart → Apart
    pub ran : (v : Voted) → Contains g.wire.votes v → v.call ≡ call-of → IsRanApart (g.apart v) (f (g.apart v))
    pub here : (v : Voted) → Contains g.wire.votes v → v.call ≡ call-of
        → present_at (f (g.apart v)).doors m ≡ Some b.door
    pub there : (v : Voted) (j : ℕ) → (j ≡ m → ⊥)
        → present_at (f (g.apart v)).doors j ≡ present_at (g.apart v).doors j
    pub batch : (v : Voted) → Contains g.wire.votes v → v.call ≡ call-of → (y : Packet) → Contains b.batch y
        → Contains (f (g.apart v)).sent y
    pub just : (base : OnLog) → HasJustLogged base a.door.member.replica (s.seats m).log.content
        → HasJustLogged base b.door.member.replica (s.seats m).log.content
    pub due : (written : Written) (what : Record) → (s.seats m).coming ≡ Some written
        → next_deed a.door.member ≡ deeds.Append what → next_deed b.door.member ≡ deeds.Append what

  pub goes-so : (b : InAge) → Moves b → next.seats m ≡ record (s.seats m) { age = Some b } → GoesOn p new s next g m
  unfolding call-of
  goes-so b x made = (
    h,
    go,
    holds-on p new s next g h m k.holds go k.holds.run (record {
      sits = subst (λ y. Sits p next.seats h m y) (sym made) (record {
        stands = o.stands;
        lists = o.lists;
        long = o.long;
        hands = λ j. hand-on g.wire h.wire (s.seats j).log (next.seats j).log j ((s.seats m).hands j) (λ y c. c)
            (log-grows p new s next g h m go k.holds.run k.holds.run j) (o.hands j);
        handed = o.handed;
        gathers = o.gathers;
        tries = λ t rest e none. absurd (none-some b (sym none));
        runs = λ y e. (
          try-of.0,
          try-of.1,
          subst (λ z. IsRunning h m (s.seats m).log.content try-of.0 z) (same_Some b y e)
              running,
        );
        told = λ t e. told-on p new s next g h m go k.holds.run k.holds.run t (o.told t e);
        due = λ written e. let d = o.due written e in (d.0, due written e d.1);
        left = o.left;
        opens = λ e. absurd (none-some a (sym (o.opens e).1 ∙ k.runs));
      });
      ages = λ c d. inl d;
      ups = λ j c up. inl up;
      idle = idle;
      sent = k.sent;
    }),
  )
    where
      o : Sits p s.seats g m (s.seats m)
      o = k.holds.sits m

      r : IsRunning g m (s.seats m).log.content try-of.0 a
      r = try-of.2

      h : Ghost
      h = record { wire = g.wire; apart = touched r.vote.call x.f g.apart; ups = g.ups }

      keeps : Keeps (opening_of p) (new_wire new) g.wire
      keeps = kept-of (opening_of p) (new_wire new) g.wire k.holds.run

      mine : Contains g.wire.votes r.vote
      mine = (keeps.last m r.vote r.tries).0

      there : (v : Voted) (j : ℕ) → (j ≡ m → ⊥) → present_at (h.apart v).doors j ≡ present_at (g.apart v).doors j
      there v j n = ⊎_elim
          (λ e. ap (λ c. present_at c.doors j) (touched-in r.vote.call x.f g.apart v e) ∙ x.there v j n)
          (λ d. ap (λ c. present_at c.doors j) (touched-out r.vote.call x.f g.apart v d))
          (same-calls v.call r.vote.call)

      ran : (v : Voted) → Contains g.wire.votes v → IsRanApart (g.apart v) (h.apart v)
      ran v c = ⊎_elim
          (λ e. subst (IsRanApart (g.apart v)) (sym (touched-in r.vote.call x.f g.apart v e)) (x.ran v c e))
          (λ d. ([], touched-out r.vote.call x.f g.apart v d)) (same-calls v.call r.vote.call)

      here : HasDoor h m r.vote.call b.door
      here v c e = ap (λ y. present_at y.doors m) (touched-in r.vote.call x.f g.apart v e) ∙ x.here v c e

      up : (c : Called) → IsUp g m c → IsUp h m c
      up c was = by (same-calls c r.vote.call)
        where
          by : (c ≡ r.vote.call) ⊎ (c ≡ r.vote.call → ⊥) → IsUp h m c
          by (inl e) = record {
            inside = was.inside;
            opened = was.opened;
            left = λ v d f. record {
              door = b.door;
              there = here v d (f ∙ e);
              base = r.served.base;
              earlier = λ y z. subst (λ st. y.age < st.age)
                  (sym (same-start (opening_of p) (new_wire new) g.wire keeps v r.vote d mine (f ∙ e)))
                  (r.served.earlier y z);
              found = (s.seats m).log.content;
              left = inl (x.just r.served.base r.served.just);
              is = ap (λ y. moment g.wire (y.age + 1) m) e
                  ∙ moment-now (opening_of p) (new_wire new) g.wire k.holds.run m r.vote r.tries ∙ o.lists;
            };
          }
          by (inr n) = record {
            inside = was.inside;
            opened = was.opened;
            left = λ v d f. let l = was.left v d f in record {
              door = l.door;
              there = ap (λ y. present_at y.doors m) (touched-out r.vote.call x.f g.apart v (λ z. n (sym f ∙ z)))
                  ∙ l.there;
              base = l.base;
              earlier = l.earlier;
              found = l.found;
              left = l.left;
              is = l.is;
            };
          }

      go : Goes p s next g h m
      go = record {
        wire = wire-stays g.wire m;
        seats = k.others;
        log = subst (λ l. IsPrefixOf (s.seats m).log.bytes l.bytes) (sym (ap (λ y. y.log) made))
            (prefix_refl (s.seats m).log.bytes);
        doors = λ v j c n. there v j n;
        ran = ran;
        fresh = λ v c. inl c;
        ups = λ y c. c;
        risen = λ j c y. inl y;
        up = λ c risen y. up c y;
      }

      running : IsRunning h m (s.seats m).log.content try-of.0 b
      running = record {
        vote = r.vote;
        tries = r.tries;
        call = r.call;
        start = r.start;
        step = r.step;
        began = r.began;
        door = here;
        batch = λ v c e y d. subst (λ z. Contains z.sent y) (sym (touched-in r.vote.call x.f g.apart v e))
            (x.batch v c e y d);
        served = record {
          base = r.served.base;
          earlier = r.served.earlier;
          just = x.just r.served.base r.served.just;
        };
      }

      due : (written : Written) → (s.seats m).coming ≡ Some written
          → IsDue (opening_of p) g m (s.seats m).log.content (s.seats m).try (s.seats m).age written
          → IsDue (opening_of p) h m (s.seats m).log.content (s.seats m).try (Some b) written
      due written e (inl y) = absurd (none-some a (sym y.no_age ∙ k.runs))
      due written e (inr (inl y)) = absurd (none-some a (sym y.no_age ∙ k.runs))
      due written e (inr (inr y)) =
          let vote : y.vote ≡ r.vote = same_Some _ _ (sym y.tries ∙ r.tries) in
          let door : y.door ≡ a.door = same_Some _ _ (sym (y.there r.vote mine (ap (λ v. v.call) (sym vote)))
          ∙ r.door r.vote mine refl) in
          inr (inr (record {
            vote = r.vote;
            tries = r.tries;
            began = r.began;
            door = b.door;
            there = here;
            served = running.served;
            what = y.what;
            due = x.due written y.what e (subst (λ d. next_deed d.member ≡ deeds.Append y.what) door y.due);
            content = y.content;
            runs = λ t f. (b, refl);
          }))

      idle : (v : Voted) → Contains g.wire.votes v → IsIdle next h v.call m
          → present_at (h.apart v).doors m ≡ present_at (fresh p v.start).doors m
      idle v d (inr i) = absurd (none-some b (sym (ap (λ y. y.age) (sym made) ∙ i.0)))
      idle v d (inl never) = ap (λ c. present_at c.doors m) (touched-out r.vote.call x.f g.apart v
          (λ e. never r.vote mine (keeps.last m r.vote r.tries).1 (sym e)))
          ∙ k.holds.idle v m d (inl (λ u c e f. never u c e f))

  -- ---- one door stands otherwise

  module _ (d : Lone) where
    -- a single step by which this door stands at its place
    pub with-step : ((v : Voted) → Contains g.wire.votes v → v.call ≡ call-of
        → IsRanApart (g.apart v) (with_door (g.apart v) m d))
        → ((base : OnLog) → HasJustLogged base a.door.member.replica (s.seats m).log.content
        → HasJustLogged base d.member.replica (s.seats m).log.content)
        → ((written : Written) (what : Record) → (s.seats m).coming ≡ Some written
        → next_deed a.door.member ≡ deeds.Append what → next_deed d.member ≡ deeds.Append what)
        → Moves (record { door = d; batch = a.batch })
    with-step ran just due = record {
      f = λ y. with_door y m d;
      ran = ran;
      here = λ v c e. present_set (g.apart v).doors m d
          (present_within (g.apart v).doors m a.door (door-of v c e));
      there = λ v j n. present_kept (g.apart v).doors m j d n;
      batch = batch-of;
      just = just;
      due = due;
    }
