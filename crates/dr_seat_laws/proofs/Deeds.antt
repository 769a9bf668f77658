-- Each deed of a seat's member.
use Rattle.std.proofs.Common.{◌≡◌, refl, ap, sym, ◌∙◌, ◌⊎◌, inl, inr, subst, ℕ, suc, ◌<◌, arith, true, List, [], ◌∷◌, ◌++◌, Contains, Option, None, Some, ⊎_elim}
use Rattle.std.proofs.lemmas.{List.{Elements.Contains-push_cases, set-set}, Option.{none-some}}
use Rattle.dr_calls.specs.Wire.{Called}
use Rattle.dr_calls.proofs.{Between.Keeps, Lasting.kept-of, Ordered.calls_ordered}
use Rattle.dr_door.specs.Apart.{Apart, ApartStep, ApartWay, IsRanApart, with_door}
use Rattle.dr_door.specs.Coming.{came_by, came_to, refusal}
use Rattle.dr_door.specs.Lone.{Lone, after_asking, done_alone, pushed_on, went_on}
use Rattle.dr_door.specs.declared.refused.Refused.{Refused}
use Rattle.dr_door.proofs.Steps.{ways_join}
use Rattle.dr_history.specs.{History.up_to_view, Members.has}
use Rattle.dr_kept.specs.Leaving.{HasJustLogged}
use Rattle.dr_entry.specs.declared.record.Record.{Record}
use Rattle.dr_program.specs.{Presence.{present_at, with_present}, Running.{Running, next_deed}}
use Rattle.dr_program.specs.declared.packet.Packet.{Packet}
use Rattle.dr_program.specs.declared.deed.Deed.TheVariants as deeds
use Rattle.dr_program.proofs.Present.{present_kept, present_set, present_within, set_itself}
use Rattle.dr_seat_laws.specs.Seats.{Seats}
use Rattle.dr_seat_laws.specs.Sitting.{Asks, DoesAlone, Gives, InAge, Pushes, TakesWords, Written, came_all}
use Rattle.dr_seat_laws.proofs.{Doors.{just-alone, just-ask, just-give, just-push}, Fresh.Plan}
use Rattle.dr_seat_laws.proofs.Going.{RunsOn, batch-of, began-of, call-of, call-of-try, door-of, form-here, goes-so, inside-of, with-step}
use Rattle.dr_seat_laws.proofs.Holding.{Ghost, Holds, WerePushed, called, new_wire, opening_of}
use Rattle.dr_seat_laws.proofs.Settled.{GoesOn}

-- nothing goes to a log at rest
at-rest : (a b : Lone) (s : Option Written) → s ≡ None → (written : Written) (what : Record) → s ≡ Some written
    → next_deed a.member ≡ deeds.Append what → next_deed b.member ≡ deeds.Append what
at-rest a b s none written what e due = absurd (none-some written (sym none ∙ e))

-- one step
one-step : (a b : Apart) → ApartStep a b → IsRanApart a b
one-step a b step = (a ∷ [], (refl, step))

module _ (p : Plan) (new s next : Seats) (g : Ghost) (m : ℕ) (holds : Holds p new s g)
    (others : (k : ℕ) → (k ≡ m → ⊥) → next.seats k ≡ s.seats k) (sent : next.sent ≡ s.sent) where
  runs-on : (a : InAge) → (s.seats m).age ≡ Some a → RunsOn p new s next g m a
  runs-on a runs = record { holds = holds; others = others; sent = sent; runs = runs }

  pub does-alone : DoesAlone (s.seats m) (next.seats m) → GoesOn p new s next g m
  unfolding runs-on
  does-alone x =
      let k = runs-on x.age x.runs in
      goes-so p new s next g m x.age k _ (with-step p new s next g m x.age k (done_alone x.age.door)
      (λ v c e. one-step _ _ (inl (record {
        number = m;
        door = x.age.door;
        there = door-of p new s next g m x.age k v c e;
        due = x.due;
        made = refl;
      })))
      (λ base j. just-alone base x.age.door (s.seats m).log.content x.due (form-here p new s next g m x.age k) j)
      (at-rest x.age.door (done_alone x.age.door) (s.seats m).coming x.rest.0)) x.made

  pub gives : Gives (s.seats m) (next.seats m) → GoesOn p new s next g m
  unfolding runs-on
  gives x =
      let k = runs-on x.age x.runs in
      let d = went_on x.age.door in
      goes-so p new s next g m x.age k (record { door = d; batch = x.age.batch }) (record {
        f = λ y. record {
          doors = with_present y.doors m d;
          sent = y.sent;
          letters = record { to = x.late; entries = up_to_view x.age.door.member.replica.history } ∷ y.letters;
        };
        ran = λ v c e. one-step _ _ (inr (inr (inr (inr (inl (record {
          number = m;
          door = x.age.door;
          there = door-of p new s next g m x.age k v c e;
          late = x.late;
          due = x.due;
          made = refl;
        }))))));
        here = λ v c e. present_set (g.apart v).doors m d
            (present_within (g.apart v).doors m x.age.door (door-of p new s next g m x.age k v c e));
        there = λ v j n. present_kept (g.apart v).doors m j d n;
        batch = batch-of p new s next g m x.age k;
        just = λ base j. just-give base x.age.door (s.seats m).log.content x.late x.due
            (form-here p new s next g m x.age k) j;
        due = at-rest x.age.door d (s.seats m).coming x.rest.0;
      }) x.made

  pub asks : Asks (s.seats m) (next.seats m) → GoesOn p new s next g m
  unfolding runs-on
  asks x =
      let k = runs-on x.age x.runs in
      goes-so p new s next g m x.age k _ (with-step p new s next g m x.age k (after_asking None x.age.door)
      (λ v c e. one-step _ _ (inr (inr (inr (inr (inr (inl (record {
        number = m;
        door = x.age.door;
        there = door-of p new s next g m x.age k v c e;
        due = x.due;
        letter = None;
        given = tt;
        made = refl;
      })))))))) (λ base j. just-ask base x.age.door (s.seats m).log.content j)
      (at-rest x.age.door (after_asking None x.age.door) (s.seats m).coming x.rest.0)) x.made

  pub pushes : Pushes (s.seats m) (next.seats m) → GoesOn p new s next g m
  unfolding runs-on
  pushes x =
      let k = runs-on x.age x.runs in
      let d = pushed_on x.age.door in
      goes-so p new s next g m x.age k (record { door = d; batch = x.age.batch ++ x.packet ∷ [] }) (record {
        f = λ y. record {
          doors = with_present y.doors m d;
          sent = x.packet ∷ y.sent;
          letters = y.letters;
        };
        ran = λ v c e. one-step _ _ (inr (inl (record {
          number = m;
          door = x.age.door;
          there = door-of p new s next g m x.age k v c e;
          packet = x.packet;
          due = x.due;
          made = refl;
        })));
        here = λ v c e. present_set (g.apart v).doors m d
            (present_within (g.apart v).doors m x.age.door (door-of p new s next g m x.age k v c e));
        there = λ v j n. present_kept (g.apart v).doors m j d n;
        batch = λ v c e y z. ⊎_elim
            (λ old. let w = batch-of p new s next g m x.age k v c e y old in (suc w.0, omega (arith, w.1), w.2))
            (λ f. (0, omega arith, f)) (Contains-push_cases x.age.batch x.packet y z);
        just = λ base j. just-push base x.age.door (s.seats m).log.content x.packet.index x.packet.word x.due
            (form-here p new s next g m x.age k) j;
        due = at-rest x.age.door d (s.seats m).coming x.rest.0;
      }) x.made

-- ---- words that come

-- a word leaves the member as it is
same-member : (r : Option Refused) (d : Lone) (index word : ℕ) → (came_by r d index word).member ≡ d.member
same-member None d index word = refl
same-member (Some why) d index word = refl

same-members : (d : Lone) (words : List Packet) → (came_all d words).member ≡ d.member
unfolding came_all
same-members d [] = refl
same-members d (w ∷ ws) = same-members (came_to d w.index w.word) ws
    ∙ same-member (refusal d w.index w.word) d w.index w.word

put-twice : (a : Apart) (m : ℕ) (d e : Lone) → with_door (with_door a m d) m e ≡ with_door a m e
put-twice a m d e = λ z. record { doors = set-set a.doors m (Some d) (Some e) z; sent = a.sent; letters = a.letters }

-- words that were sent come to a door, one by one
words-come : (a : Apart) (m : ℕ) (d : Lone) (words : List Packet) → present_at a.doors m ≡ Some d
    → ((w : Packet) → Contains words w → Contains a.sent w) → IsRanApart a (with_door a m (came_all d words))
unfolding came_all
words-come a m d [] there sent = (
  [],
  λ z. record { doors = set_itself a.doors m d there z; sent = a.sent; letters = a.letters },
)
words-come a m d (w ∷ ws) there sent =
    let x = came_to d w.index w.word in
    let step : ApartStep a (with_door a m x) = inr (inr (inr (inr (inr (inr (record {
      number = m;
      door = d;
      there = there;
      packet = w;
      sent = sent w (0, omega arith, refl);
      made = refl;
    })))))) in
    let on = words-come (with_door a m x) m x ws (present_set a.doors m x (present_within a.doors m d there))
    (λ y c. sent y (suc c.0, omega (arith, c.1), c.2)) in (
      on.0 ++ a ∷ [],
      subst (ApartWay a (on.0 ++ a ∷ [])) (put-twice a m x (came_all x ws)) (ways_join a (with_door a m x)
          (with_door (with_door a m x) m (came_all x ws)) (a ∷ []) on.0 (refl, step) on.1),
    )

pub takes-words : (p : Plan) (new s next : Seats) (g : Ghost) (m : ℕ) → Holds p new s g
    → ((k : ℕ) → (k ≡ m → ⊥) → next.seats k ≡ s.seats k) → next.sent ≡ s.sent
    → TakesWords s.sent m (s.seats m) (next.seats m) → GoesOn p new s next g m
takes-words p new s next g m holds others sent x =
    goes-so p new s next g m x.age k _ (with-step p new s next g m x.age k (came_all x.age.door x.words)
    (λ v c e. words-come (g.apart v) m x.age.door x.words (door-of p new s next g m x.age k v c e)
    (λ w d. so.sent v c (e ∙ call) w d))
    (λ base j. subst (λ (r : Running). HasJustLogged base r.replica (s.seats m).log.content)
    (sym (same-members x.age.door x.words)) j)
    (λ written what e due. subst (λ (r : Running). next_deed r ≡ deeds.Append what)
    (sym (same-members x.age.door x.words)) due)) x.made
  where
    k : RunsOn p new s next g m x.age
    k = record { holds = holds; others = others; sent = sent; runs = x.runs }

    so : WerePushed g x.try.call.age x.words
    so = holds.sent _ x.told

    keeps : Keeps (opening_of p) (new_wire new) g.wire
    keeps = kept-of (opening_of p) (new_wire new) g.wire holds.run

    c : Called
    c = call-of p new s next g m x.age k

    mine : called x.try.call ≡ c
    mine = call-of-try p new s next g m x.age k x.try x.tries

    inside : has c.set m ≡ true
    inside = inside-of p new s next g m x.age k

    call : c ≡ so.call
    call = told (calls_ordered (opening_of p) (new_wire new) g.wire c so.call m so.member holds.run
        (keeps.opens c (began-of p new s next g m x.age k)) (keeps.opens so.call so.began) inside so.inside)
      where
        told : (c ≡ so.call) ⊎ (c.age < so.call.age) ⊎ (so.call.age < c.age) → c ≡ so.call
        told (inl e) = e
        told (inr (inl l)) = absurd (omega (arith, l, so.same, ap (λ y. y.age) mine))
        told (inr (inr l)) = absurd (omega (arith, l, so.same, ap (λ y. y.age) mine))
