-- What holds of seats holds since they were new.
use Rattle.std.proofs.Common.{refl, sym, ◌∙◌, inl, inr, subst, ℕ, arith, List, [], ◌∷◌, ◌++◌, Contains, ⊎_elim}
use Rattle.std.proofs.lemmas.Option.{none-some}
use Rattle.dr_calls.specs.Wire.{Called, Voted}
use Rattle.dr_door.{specs.Apart.IsRanApart, proofs.Steps.ways_join}
use Rattle.dr_seat_laws.specs.Seats.{AreNew, HaveRun, SeatMoves, Seats, SeatsStep, SeatsWay}
use Rattle.dr_seat_laws.specs.Sitting.{Moves, appends, asks, begins, casts, clears, counts, does_alone, forgets, gives, hands_in, leaves, pushes, raises, settles, stops, synced, takes_hand, takes_words}
use Rattle.dr_seat_laws.proofs.Appending as appending
use Rattle.dr_seat_laws.proofs.Deeds as deeds
use Rattle.dr_seat_laws.proofs.Quiet as quiet
use Rattle.dr_seat_laws.proofs.Settled as settled
use Rattle.dr_seat_laws.proofs.Starting as starting
use Rattle.dr_seat_laws.proofs.{Fresh.{Plan, fresh}, Growing.Goes, Telling.tells}
use Rattle.dr_seat_laws.proofs.Holding.{Ghost, Holds, IsHandKept, new_wire}

-- nothing has gone, and doors have run on
pub record IsLater (g h : Ghost) : Type 0 where
  pub votes : (v : Voted) → Contains g.wire.votes v → Contains h.wire.votes v
  pub ages : (c : Called) → Contains g.wire.ages c → Contains h.wire.ages c
  pub ran : (v : Voted) → Contains g.wire.votes v → IsRanApart (g.apart v) (h.apart v)

now : (g : Ghost) → IsLater g g
now g = record { votes = λ v c. c; ages = λ c d. d; ran = λ v c. ([], refl) }

later-on : (g h i : Ghost) → IsLater g h → IsLater h i → IsLater g i
later-on g h i x y = record {
  votes = λ v c. y.votes v (x.votes v c);
  ages = λ c d. y.ages c (x.ages c d);
  ran = λ v c.
      let a = x.ran v c in
      let b = y.ran v (x.votes v c) in
      (b.0 ++ a.0, ways_join (g.apart v) (h.apart v) (i.apart v) a.0 b.0 a.1 b.1);
}

by-goes : (p : Plan) (s next : Seats) (g h : Ghost) (m : ℕ) → Goes p s next g h m → IsLater g h
by-goes p s next g h m go = record { votes = go.wire.votes; ages = go.wire.ages; ran = go.ran }

-- it goes on to hold
abbrev pub HoldsLater : Plan → Seats → Seats → Ghost → Type 0
HoldsLater p new next g = (h : Ghost) × IsLater g h × Holds p new next h

moves : (p : Plan) (new s next : Seats) (g : Ghost) → Holds p new s g → SeatMoves p.script s next
    → HoldsLater p new next g
moves p new s next g holds x = by x.moves
  where
    m : ℕ
    m = x.member

    same : Holds p new next g → HoldsLater p new next g
    same h = (g, now g, h)

    goes : ((h : Ghost) × Goes p s next g h m × Holds p new next h) → HoldsLater p new next g
    goes t = (t.0, by-goes p s next g t.0 m t.1, t.2)

    by : Moves p.script s.sent m (s.seats m) (next.seats m) → HoldsLater p new next g
    by (hands_in y) = goes (starting.hands-in p new s next g m holds x.others x.sent y)
    by (takes_hand y) = same (quiet.takes-hand p new s next g m holds x.others x.sent y)
    by (forgets y) = same (quiet.forgets p new s next g m holds x.others x.sent y)
    by (casts y) = same (appending.casts p new s next g m holds x.others x.sent y)
    by (counts y) = same (quiet.counts p new s next g m holds x.others x.sent y)
    by (raises y) = same (appending.raises p new s next g m holds x.others x.sent y)
    by (begins y) = goes (starting.begins p new s next g m holds x.others x.sent x.within y)
    by (leaves y) = same (quiet.leaves p new s next g m holds x.others x.sent y)
    by (settles y) = goes (settled.settles p new s next g m holds x.others x.sent x.within y)
    by (stops y) = same (quiet.stops p new s next g m holds x.others x.sent y)
    by (synced y) = ⊎_elim (λ e. same (quiet.synced-old p new s next g m holds x.others x.sent y e))
        (λ e. goes (settled.synced-new p new s next g m holds x.others x.sent y e)) y.either
    by (does_alone y) = goes (deeds.does-alone p new s next g m holds x.others x.sent y)
    by (pushes y) = goes (deeds.pushes p new s next g m holds x.others x.sent y)
    by (clears y) = same (quiet.clears p new s next g m holds x.others x.sent y)
    by (appends y) = same (appending.appends p new s next g m holds x.others x.sent y)
    by (gives y) = goes (deeds.gives p new s next g m holds x.others x.sent y)
    by (asks y) = goes (deeds.asks p new s next g m holds x.others x.sent y)
    by (takes_words y) = goes (deeds.takes-words p new s next g m holds x.others x.sent y)

step-holds : (p : Plan) (new s next : Seats) (g : Ghost) → Holds p new s g → SeatsStep p.script s next
    → HoldsLater p new next g
step-holds p new s next g holds (inl x) = moves p new s next g holds x
step-holds p new s next g holds (inr x) = (g, now g, tells p new s next g holds x)

pub way-holds : (p : Plan) (new s later : Seats) (g : Ghost) (before : List Seats) → Holds p new s g
    → SeatsWay p.script s before later → HoldsLater p new later g
way-holds p new s later g [] holds way = (g, now g, subst (λ x. Holds p new x g) (sym way) holds)
way-holds p new s later g (x ∷ xs) holds way =
    let t = way-holds p new s x g xs holds way.0 in
    let u = step-holds p new x later t.0 t.2 way.1 in
    (u.0, later-on g t.0 u.0 t.1 u.1, u.2)

-- ---- new seats

new_ghost : Plan → Seats → Ghost
new_ghost p new = record { wire = new_wire new; apart = λ v. fresh p v.start; ups = [] }

none : {X : Type 0} (x : X) → Contains [] x → ⊥
none x c = omega (arith, c.1)

new-holds : (p : Plan) (new : Seats) → AreNew new → Holds p new new (new_ghost p new)
unfolding new_ghost
new-holds p new is = record {
  run = (
    record { waits = λ m. refl; given = refl; votes = refl; ages = refl },
    ([], refl),
  );
  sits = λ m. let x = is.each m in record {
    stands = x.stands;
    lists = refl;
    long = refl;
    hands = λ k. subst (λ h. IsHandKept (new_wire new) (new.seats k).log k h) (sym (x.hands k))
        (record { front = ((new.seats k).log.bytes, refl); given = λ some. absurd (omega (arith, some)) });
    handed = λ n e. absurd (none-some n (sym x.handed ∙ e));
    gathers = λ n rest e none. absurd (none-some n (sym x.handed ∙ e));
    tries = λ t rest e none. absurd (none-some t (sym x.try ∙ e));
    runs = λ a e. absurd (none-some a (sym x.age ∙ e));
    told = λ t e. absurd (none-some t (sym x.try ∙ e));
    due = λ written e. absurd (none-some written (sym x.coming ∙ e));
    left = λ written n e none f. none-some written (sym x.coming ∙ e);
    opens = λ e. (x.try, x.age, x.handed);
  };
  sent = λ y c. absurd (none y (subst (λ l. Contains l y) is.sent c));
  ups = λ k c up. absurd (none _ up);
  ages = λ c d. absurd (none c d);
  ran = λ v c. absurd (none v c);
  idle = λ v k c. absurd (none v c);
}

-- so it is since then
pub holds-since : (p : Plan) (new s : Seats) → AreNew new → HaveRun p.script new s → (g : Ghost) × Holds p new s g
holds-since p new s is run =
    let t = way-holds p new new s (new_ghost p new) run.0 (new-holds p new is) run.1 in (t.0, t.2)
