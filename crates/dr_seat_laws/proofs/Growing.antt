-- What holds of seats goes on to hold while one of them does something.
use Rattle.std.proofs.Common.{◌≡◌, ap, sym, ◌∙◌, ◌⊎◌, inl, inr, subst, ℕ, suc, ◌+◌, ◌<◌, arith, true, List, [], ◌∷◌, ◌++◌, Contains, Option, Some, ⊎_elim}
use Rattle.std.proofs.lemmas.Bool.{cases_eq}
use Rattle.dr_calls.specs.Wire.{Called, IsOpened, IsRunSince, Voted, Wire, moment}
use Rattle.dr_calls.proofs.{Lasting.kept-of}
use Rattle.dr_door.specs.Apart.{Apart, ApartStep, ApartWay, IsRanApart}
use Rattle.dr_door.{specs.Lone.Lone, proofs.Steps.ways_join}
use Rattle.dr_door_logs.specs.Leaving.{IsLogOfDoor}
use Rattle.dr_history.specs.{History.IsPrefixOf, Members.has}
use Rattle.dr_history.proofs.Lists.{prefix-trans, prefix_refl}
use Rattle.dr_log_bytes.specs.Content.{OnLog}
use Rattle.dr_packet.specs.declared.Far.{Far}
use Rattle.dr_packet.specs.declared.Far.TheVariants as fars
use Rattle.dr_program.specs.{Presence.present_at, declared.packet.Packet.Packet}
use Rattle.dr_seat_laws.specs.Seats.{Seats}
use Rattle.dr_seat_laws.specs.Sitting.{Gathered, InAge, Said, Sitting, Trying, Written}
use Rattle.dr_seat_laws.specs.Sitting.{Ask, Hand, Try, Words}
use Rattle.dr_seat_laws.proofs.{Fresh.{Plan, fresh}, Wires.{HasVoted, WireGoes}}
use Rattle.dr_seat_laws.proofs.Holding.{Ghost, HasDoor, HasRisen, HaveTold, Holds, IsDue, IsGivenAs, IsHandKept, IsIdle, IsRunning, IsSo, IsSoFar, IsTrying, IsUp, Risen, Sits, WasHandedIn, called, new_wire, opening_of}

-- one seat has done something: nothing has gone, and what concerns others is as before
pub record Goes (p : Plan) (s next : Seats) (g h : Ghost) (m : ℕ) : Type 0 where
  pub wire : WireGoes g.wire h.wire m
  pub seats : (k : ℕ) → (k ≡ m → ⊥) → next.seats k ≡ s.seats k
  pub log : IsPrefixOf (s.seats m).log.bytes (next.seats m).log.bytes
  pub doors : (v : Voted) (k : ℕ) → Contains g.wire.votes v → (k ≡ m → ⊥)
      → present_at (h.apart v).doors k ≡ present_at (g.apart v).doors k
  pub ran : (v : Voted) → Contains g.wire.votes v → IsRanApart (g.apart v) (h.apart v)
  pub fresh : (v : Voted) → Contains h.wire.votes v
      → Contains g.wire.votes v ⊎ (h.apart v ≡ fresh p v.start)
  pub ups : (x : Risen) → Contains g.ups x → Contains h.ups x
  pub risen : (k : ℕ) (c : Called) → HasRisen h k c → HasRisen g k c ⊎ (k ≡ m)
  pub up : (c : Called) → HasRisen g m c → IsUp g m c → IsUp h m c

-- ---- what was sent

still-sent : (a b : Apart) (x : Packet) → b.sent ≡ a.sent → Contains a.sent x → Contains b.sent x
still-sent a b x e c = subst (λ l. Contains l x) (sym e) c

step-sent : (a b : Apart) (x : Packet) → ApartStep a b → Contains a.sent x → Contains b.sent x
step-sent a b x (inl s) c = still-sent a b x (ap (λ y. y.sent) s.made) c
step-sent a b x (inr (inl s)) c = subst (λ y. Contains y.sent x) (sym s.made) (suc c.0, omega (arith, c.1), c.2)
step-sent a b x (inr (inr (inl s))) c = still-sent a b x (ap (λ y. y.sent) s.made) c
step-sent a b x (inr (inr (inr (inl s)))) c = still-sent a b x (ap (λ y. y.sent) s.made) c
step-sent a b x (inr (inr (inr (inr (inl s))))) c = still-sent a b x (ap (λ y. y.sent) s.made) c
step-sent a b x (inr (inr (inr (inr (inr (inl s)))))) c = still-sent a b x (ap (λ y. y.sent) s.made) c
step-sent a b x (inr (inr (inr (inr (inr (inr s)))))) c = still-sent a b x (ap (λ y. y.sent) s.made) c

way-sent : (begun a : Apart) (before : List Apart) (x : Packet) → ApartWay begun before a → Contains begun.sent x
    → Contains a.sent x
way-sent begun a [] x way c = subst (λ y. Contains y.sent x) (sym way) c
way-sent begun a (b ∷ bs) x way c = step-sent b a x way.1 (way-sent begun b bs x way.0 c)

pub ran-sent : (a b : Apart) (x : Packet) → IsRanApart a b → Contains a.sent x → Contains b.sent x
ran-sent a b x ran c = way-sent a b ran.0 x ran.1 c

-- ---- logs and votes

given-on : (w next : Wire) (k long : ℕ) (bytes : List ℕ) → ((x : _) → Contains w.given x → Contains next.given x)
    → IsGivenAs w k long bytes → IsGivenAs next k long bytes
given-on w next k long bytes given b =
    record { content = b.content; stands = b.stands; size = b.size; given = given _ b.given }

pub handed-on : (w next : Wire) (log longer : Written) (k long : ℕ) (bytes : List ℕ)
    → ((x : _) → Contains w.given x → Contains next.given x) → IsPrefixOf log.bytes longer.bytes
    → WasHandedIn w log k long bytes → WasHandedIn next longer k long bytes
handed-on w next log longer k long bytes given grown b =
    (given-on w next k long bytes given b.0, prefix-trans bytes log.bytes longer.bytes b.1 grown)

pub hand-on : (w next : Wire) (log longer : Written) (k : ℕ) (hand : Gathered)
    → ((x : _) → Contains w.given x → Contains next.given x) → IsPrefixOf log.bytes longer.bytes
    → IsHandKept w log k hand → IsHandKept next longer k hand
hand-on w next log longer k hand given grown kept = record {
  front = prefix-trans hand.bytes log.bytes longer.bytes kept.front grown;
  given = λ some. let b = kept.given some in (b.0, handed-on w next log longer k hand.long b.0 given grown b.1);
}

pub voted-on : (w next : Wire) (k : ℕ) (c : Called) → ((v : Voted) → Contains w.votes v → Contains next.votes v)
    → HasVoted w k c → HasVoted next k c
voted-on w next k c votes h = (h.0, votes h.0 h.1, h.2, h.3)

pub opened-on : (w next : Wire) (c : Called) → ((v : Voted) → Contains w.votes v → Contains next.votes v)
    → IsOpened w c → IsOpened next c
opened-on w next c votes opened k inside = voted-on w next k c votes (opened k inside)

-- ---- one step

module _ (p : Plan) (new s next : Seats) (g h : Ghost) (m : ℕ) (go : Goes p s next g h m)
    (before : IsRunSince (opening_of p) (new_wire new) g.wire)
    (run : IsRunSince (opening_of p) (new_wire new) h.wire) where
  -- nobody votes for a call for which all have voted
  pub old-vote : (v : Voted) (c : Called) → IsOpened g.wire c → Contains h.wire.votes v → v.call ≡ c
      → Contains g.wire.votes v
  old-vote v c opened now e = ⊎_elim (λ d. d) late (go.wire.born v now)
    where
      inside : has c.set v.member ≡ true
      inside = subst (λ x. has x.set v.member ≡ true) e ((kept-of (opening_of p)
          (new_wire new) h.wire run).cast v now).inside

      late : (v.member ≡ m) × ((u : Voted) → Contains g.wire.votes u → u.member ≡ m → u.call.age < v.call.age)
          → Contains g.wire.votes v
      late r =
          let u = opened v.member inside in
          absurd (omega (arith, r.1 u.0 u.1 (u.2 ∙ r.0), ap (λ x. x.age) u.3, ap (λ x. x.age) e))

  pub began-opened : (c : Called) → Contains g.wire.ages c → IsOpened g.wire c
  began-opened c d = (kept-of (opening_of p) (new_wire new) g.wire before).opens c d

  pub log-grows : (k : ℕ) → IsPrefixOf (s.seats k).log.bytes (next.seats k).log.bytes
  log-grows k = by (cases_eq k m)
    where
      by : (k ≡ m) ⊎ (k ≡ m → ⊥) → IsPrefixOf (s.seats k).log.bytes (next.seats k).log.bytes
      by (inl e) = subst (λ n. IsPrefixOf (s.seats n).log.bytes (next.seats n).log.bytes) (sym e) go.log
      by (inr n) = subst (λ x. IsPrefixOf (s.seats k).log.bytes x.log.bytes) (sym (go.seats k n))
          (prefix_refl (s.seats k).log.bytes)

  pub up-on : (k : ℕ) (c : Called) → HasRisen g k c → IsUp g k c → IsUp h k c
  up-on k c risen up = by (cases_eq k m)
    where
      other : (k ≡ m → ⊥) → (v : Voted) → Contains h.wire.votes v → v.call ≡ c
          → IsLogOfDoor v.start.age (h.apart v) k (moment h.wire (c.age + 1) k)
      other n v d e =
          let old = old-vote v c up.opened d e in
          let l = up.left v old e in record {
            door = l.door;
            there = go.doors v k old n ∙ l.there;
            base = l.base;
            earlier = l.earlier;
            found = l.found;
            left = l.left;
            is = go.wire.moments (c.age + 1) k n ∙ l.is;
          }

      by : (k ≡ m) ⊎ (k ≡ m → ⊥) → IsUp h k c
      by (inl e) = subst (λ n. IsUp h n c) (sym e) (go.up c (subst (λ n. HasRisen g n c) e risen)
          (subst (λ n. IsUp g n c) e up))
      by (inr n) = record {
        inside = up.inside;
        opened = opened-on g.wire h.wire c go.wire.votes up.opened;
        left = other n;
      }

  pub told-on : (t : Trying) → HaveTold g t → HaveTold h t
  told-on t told = record {
    voted = λ k d. voted-on g.wire h.wire k (called t.call) go.wire.votes (told.voted k d);
    up = λ k d. go.ups _ (told.up k d);
  }

  -- ---- packets

  so-far : (k : ℕ) (c : Called) (far : Far) → IsSoFar g k c far → IsSoFar h k c far
  so-far k c fars.Chosen so = so
  so-far k c fars.Voted so = voted-on g.wire h.wire k c go.wire.votes so
  so-far k c fars.Up so = (voted-on g.wire h.wire k c go.wire.votes so.0, go.ups _ so.1)

  so-on : (k : ℕ) (said : Said) → IsSo s g k said → IsSo next h k said
  so-on k Ask so = so
  so-on k (Hand long at part) so = (
    so.0,
    handed-on g.wire h.wire (s.seats k).log (next.seats k).log k long so.0 go.wire.given (log-grows k) so.1,
    so.2,
    so.3,
  )
  so-on k (Try call far) so = so-far k (called call) far so
  so-on k (Words age words) so = record {
    call = so.call;
    began = go.wire.ages so.call so.began;
    same = so.same;
    member = so.member;
    inside = so.inside;
    sent = λ v d e x c.
        let old = old-vote v so.call (began-opened so.call so.began) d e in
        ran-sent (g.apart v) (h.apart v) x (go.ran v old) (so.sent v old e x c);
  }

  -- ---- another seat

  module _ (k : ℕ) (n : k ≡ m → ⊥) where
    place-on : h.wire.places k ≡ g.wire.places k
    place-on = go.wire.others k n

    still-below : (c : Called) → (HasRisen g k c → ⊥) → HasRisen h k c → ⊥
    still-below c not up = ⊎_elim not n (go.risen k c up)

    door-on : (c : Called) (d : Lone) → IsOpened g.wire c → HasDoor g k c d → HasDoor h k c d
    door-on c d opened there v now e =
        let old = old-vote v c opened now e in go.doors v k old n ∙ there v old e

    trying-on : (log : OnLog) (t : Trying) → IsTrying g k log t → IsTrying h k log t
    trying-on log t x = record {
      vote = x.vote;
      tries = ap (λ q. q.tries) place-on ∙ x.tries;
      call = x.call;
      start = x.start;
      votes = x.votes;
      entries = x.entries;
      step = ⊎_elim (λ r. inl (r.0, still-below x.vote.call r.1)) (λ r. inr (r.0, go.ups _ r.1, r.2)) x.step;
    }

    running-on : (log : OnLog) (t : Trying) (a : InAge) → IsRunning g k log t a → IsRunning h k log t a
    running-on log t a x = record {
      vote = x.vote;
      tries = ap (λ q. q.tries) place-on ∙ x.tries;
      call = x.call;
      start = x.start;
      step = x.step;
      began = go.wire.ages x.vote.call x.began;
      door = door-on x.vote.call a.door (began-opened x.vote.call x.began) x.door;
      batch = λ v now e y c.
          let old = old-vote v x.vote.call (began-opened x.vote.call x.began) now e in
          ran-sent (g.apart v) (h.apart v) y (go.ran v old) (x.batch v old e y c);
      served = x.served;
    }

    due-on : (log : OnLog) (try : Option Trying) (age : Option InAge) (written : Written)
        → IsDue (opening_of p) g k log try age written → IsDue (opening_of p) h k log try age written
    due-on log try age written (inl x) = inl (record {
      call = x.call;
      logs = x.logs;
      start = x.start;
      waits = ap (λ q. q.tries) place-on ∙ x.waits;
      handed = ap (λ q. q.handed) place-on ∙ x.handed ∙ ap (λ q. Some q.long) (sym place-on);
      inside = x.inside;
      own = x.own ∙ ap (λ q. q.long) (sym place-on);
      given = λ j log inside is. go.wire.given _ (x.given j log inside is);
      chosen = x.chosen;
      present = x.present;
      members = x.members;
      same_age = x.same_age;
      content = x.content;
      no_age = x.no_age;
      same = x.same;
    })
    due-on log try age written (inr (inl x)) = inr (inl (record {
      vote = x.vote;
      tries = ap (λ q. q.tries) place-on ∙ x.tries;
      opened = opened-on g.wire h.wire x.vote.call go.wire.votes x.opened;
      below = still-below x.vote.call x.below;
      entries = x.entries;
      votes = x.votes;
      stay = x.stay;
      age_votes = x.age_votes;
      no_age = x.no_age;
      same = x.same;
    }))
    due-on log try age written (inr (inr x)) = inr (inr (record {
      vote = x.vote;
      tries = ap (λ q. q.tries) place-on ∙ x.tries;
      began = go.wire.ages x.vote.call x.began;
      door = x.door;
      there = door-on x.vote.call x.door (began-opened x.vote.call x.began) x.there;
      served = x.served;
      what = x.what;
      due = x.due;
      content = x.content;
      runs = x.runs;
    }))

    sits-on : (sit : Sitting) → Sits p s.seats g k sit → Sits p next.seats h k sit
    sits-on sit x = record {
      stands = x.stands;
      lists = ap (λ q. q.lists) place-on ∙ x.lists;
      long = ap (λ q. q.long) place-on ∙ x.long;
      hands = λ j. hand-on g.wire h.wire (s.seats j).log (next.seats j).log j (sit.hands j) go.wire.given
          (log-grows j) (x.hands j);
      handed = λ i e. let b = x.handed i e in
          (b.0, handed-on g.wire h.wire sit.log sit.log k i b.0 go.wire.given (prefix_refl sit.log.bytes) b.1);
      gathers = λ i rest e none. let b = x.gathers i rest e none in record {
        waits = ap (λ q. q.tries) place-on ∙ b.waits;
        handed = ap (λ q. q.handed) place-on ∙ b.handed;
        long = b.long;
      };
      tries = λ t rest e none. trying-on sit.log.content t (x.tries t rest e none);
      runs = λ a e. let r = x.runs a e in (r.0, r.1, running-on sit.log.content r.0 a r.2);
      told = λ t e. told-on t (x.told t e);
      due = λ written e. let d = x.due written e in (d.0, due-on sit.log.content sit.try sit.age written d.1);
      left = x.left;
      opens = x.opens;
    }

-- ---- all seats

-- what a step has to show besides
pub record Shows (p : Plan) (s next : Seats) (g h : Ghost) (m : ℕ) : Type 0 where
  pub sits : Sits p next.seats h m (next.seats m)
  pub ages : (c : Called) → Contains h.wire.ages c
      → Contains g.wire.ages c ⊎ ((k : ℕ) → has c.set k ≡ true → HasRisen h k c)
  pub ups : (k : ℕ) (c : Called) → HasRisen h k c → HasRisen g k c ⊎ IsUp h k c
  pub idle : (v : Voted) → Contains g.wire.votes v → IsIdle next h v.call m
      → present_at (h.apart v).doors m ≡ present_at (fresh p v.start).doors m
  pub sent : next.sent ≡ s.sent

pub holds-on : (p : Plan) (new s next : Seats) (g h : Ghost) (m : ℕ) → Holds p new s g → Goes p s next g h m
    → IsRunSince (opening_of p) (new_wire new) h.wire → Shows p s next g h m → Holds p new next h
holds-on p new s next g h m holds go run shows = record {
  run = run;
  sits = λ k. sits k (cases_eq k m);
  sent = λ x c. so-on p new s next g h m go holds.run run x.from x.said
      (holds.sent x (subst (λ l. Contains l x) shows.sent c));
  ups = λ k c up. ⊎_elim (λ old. up-on p new s next g h m go holds.run run k c old (holds.ups k c old)) (λ y. y)
      (shows.ups k c up);
  ages = λ c d k inside. ages c k inside (shows.ages c d);
  ran = λ v c. ran v c (go.fresh v c);
  idle = λ v k c none. idle v k c none (go.fresh v c) (cases_eq k m);
}
  where
    sits : (k : ℕ) → (k ≡ m) ⊎ (k ≡ m → ⊥) → Sits p next.seats h k (next.seats k)
    sits k (inl e) = subst (λ n. Sits p next.seats h n (next.seats n)) (sym e) shows.sits
    sits k (inr n) = subst (λ x. Sits p next.seats h k x) (sym (go.seats k n))
        (sits-on p new s next g h m go holds.run run k n (s.seats k) (holds.sits k))

    ages : (c : Called) (k : ℕ) → has c.set k ≡ true
        → Contains g.wire.ages c ⊎ ((j : ℕ) → has c.set j ≡ true → HasRisen h j c) → HasRisen h k c
    ages c k inside (inl d) = go.ups _ (holds.ages c d k inside)
    ages c k inside (inr up) = up k inside

    ran : (v : Voted) → Contains h.wire.votes v → Contains g.wire.votes v ⊎ (h.apart v ≡ fresh p v.start)
        → IsRanApart (fresh p v.start) (h.apart v)
    ran v c (inl old) =
        let a = holds.ran v old in
        let b = go.ran v old in
        (b.0 ++ a.0, ways_join (fresh p v.start) (g.apart v) (h.apart v) a.0 b.0 a.1 b.1)
    ran v c (inr e) = ([], e)

    was-idle : (c : Called) (k : ℕ) → (k ≡ m → ⊥) → IsIdle next h c k → IsIdle s g c k
    was-idle c k n (inl none) = inl (λ u d e f. none u (go.wire.votes u d) e f)
    was-idle c k n (inr r) = inr (
      ap (λ x. x.age) (sym (go.seats k n)) ∙ r.0,
      (r.1.0, ap (λ x. x.try) (sym (go.seats k n)) ∙ r.1.1, r.1.2),
    )

    idle : (v : Voted) (k : ℕ) → Contains h.wire.votes v → IsIdle next h v.call k
        → Contains g.wire.votes v ⊎ (h.apart v ≡ fresh p v.start) → (k ≡ m) ⊎ (k ≡ m → ⊥)
        → present_at (h.apart v).doors k ≡ present_at (fresh p v.start).doors k
    idle v k c none (inr e) which = ap (λ a. present_at a.doors k) e
    idle v k c none (inl old) (inl e) = subst (λ n. present_at (h.apart v).doors n ≡ present_at
        (fresh p v.start).doors n)
        (sym e) (shows.idle v old (subst (λ n. IsIdle next h v.call n) e none))
    idle v k c none (inl old) (inr n) = go.doors v k old n ∙ holds.idle v k old (was-idle v.call k n none)
