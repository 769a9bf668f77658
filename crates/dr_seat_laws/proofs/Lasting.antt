-- What lasts on the logs of seats, and what their members agree on.
use Rattle.std.proofs.Common.{◌≡◌, refl, ap, sym, ◌∙◌, ◌⊎◌, inl, inr, subst, ℕ, ◌<◌, ◌≤◌, arith, true, List, [], ◌∷◌, ◌++◌, Contains, take, length, Some, ⊎_elim}
use Rattle.std.proofs.lemmas.{Bool.cases_eq, Option.same_Some}
use Rattle.dr_calls.specs.Wire.{Voted, Wire, lists_below, logs_in}
use Rattle.dr_calls.proofs.{Between.Keeps, Moments.same-lists, Ordered.calls_ordered}
use Rattle.dr_calls.proofs.Lasting as calls
use Rattle.dr_door.specs.Apart.{Apart, ApartStep, ApartWay}
use Rattle.dr_door.specs.{Begun.begun_lone, Lone.Lone}
use Rattle.dr_door.proofs.{Apart.{IsOfDoors, doors_kept, there_is}, Later.doors_last}
use Rattle.dr_door_logs.specs.Leaving.{AreAgesOfDoors, IsAgeOfDoors}
use Rattle.dr_door_logs.proofs.Leaving.{ages-come, door-durable}
use Rattle.dr_entry.specs.declared.entry.Entry.{Entry}
use Rattle.dr_history.specs.{History.IsPrefixOf, Members.has, Restarting.AreAlong}
use Rattle.dr_history.proofs.{Keeping.parts_along, Lists.{durable_front, prefix-trans, prefix_refl}}
use Rattle.dr_machine.specs.{Group.{Group, IsGroup}, World.opening_world}
use Rattle.dr_opening.specs.Lists.{as_lists}
use Rattle.dr_program.specs.{Presence.{present_at, with_present}, Program.Program, Reading.world}
use Rattle.dr_program.proofs.{Deeds.of_there, Present.{present_kept, present_set, present_within}}
use Rattle.dr_quorum_laws.specs.Lasting.{AreLasting}
use Rattle.dr_restart.specs.{Choosing.of_set, Groups.{group_of}, Trying.first_view_of}
use Rattle.dr_restart.proofs.Sounding.{choice-group}
use Rattle.dr_script.specs.{Ranges.HasGroupRanges, declared.script.Script.Script}
use Rattle.dr_seat_laws.specs.Seats.{AreNew, HaveRun, RunsIn, Seats, logs_on}
use Rattle.dr_seat_laws.proofs.Fresh.{Plan, fresh, fresh-begun, fresh-there, setup_for}
use Rattle.dr_seat_laws.proofs.Holding.{Ghost, Holds, new_wire, opening_of}
use Rattle.dr_seat_laws.proofs.Running.{IsLater, holds-since, way-holds}
use Rattle.dr_world_laws.proofs.{Agreeing.either-prefix, Worlds.known}

plan-of : (script : Script) → HasGroupRanges script → 1 ≤ script.turns → Plan
plan-of script ranges turns = record { script = script; ranges = ranges; turns = turns }

-- ---- doors that run on

-- a door that is there is there later
step-present : (a b : Apart) (m : ℕ) (d : Lone) → ApartStep a b → present_at a.doors m ≡ Some d
    → (e : Lone) × (present_at b.doors m ≡ Some e)
step-present a b m d step there = by step
  where
    put : (n : ℕ) (x : Lone) → b.doors ≡ with_present a.doors n x → (e : Lone) × (present_at b.doors m ≡ Some e)
    put n x made = ⊎_elim
        (λ e. (
          x,
          ap (λ ds. present_at ds m) made ∙ ap (λ i. present_at (with_present a.doors i x) m) (sym e)
              ∙ present_set a.doors m x (present_within a.doors m d there),
        ))
        (λ f. (d, ap (λ ds. present_at ds m) made ∙ present_kept a.doors n m x f ∙ there)) (cases_eq m n)

    by : ApartStep a b → (e : Lone) × (present_at b.doors m ≡ Some e)
    by (inl s) = put s.number _ (ap (λ y. y.doors) s.made)
    by (inr (inl s)) = put s.number _ (ap (λ y. y.doors) s.made)
    by (inr (inr (inl s))) = put s.number _ (ap (λ y. y.doors) s.made)
    by (inr (inr (inr (inl s)))) = put s.number _ (ap (λ y. y.doors) s.made)
    by (inr (inr (inr (inr (inl s))))) = put s.number _ (ap (λ y. y.doors) s.made)
    by (inr (inr (inr (inr (inr (inl s)))))) = put s.number _ (ap (λ y. y.doors) s.made)
    by (inr (inr (inr (inr (inr (inr s)))))) = put s.number _ (ap (λ y. y.doors) s.made)

way-present : (a b : Apart) (before : List Apart) (m : ℕ) (d : Lone) → ApartWay a before b
    → present_at a.doors m ≡ Some d
    → (e : Lone) × (present_at b.doors m ≡ Some e)
way-present a b [] m d way there = (d, ap (λ y. present_at y.doors m) way ∙ there)
way-present a b (x ∷ xs) m d way there =
    let t = way-present a x xs m d way.0 there in step-present x b m t.0 way.1 t.1

-- of the histories of two members one is a front part of the other
doors-along : (g : Group) (a : Apart) (p : Program) (m n : ℕ) (d e : Lone) → IsOfDoors g a p
    → present_at a.doors m ≡ Some d → present_at a.doors n ≡ Some e
    → AreAlong d.member.replica.history e.member.replica.history
doors-along g a p m n d e is one other =
    let here = there_is g a p m d is one in
    let there = there_is g a p n e is other in
    let k = known g (world g p) is.carried.group (is.carried.before, is.carried.way) in
    let first = of_there p (λ x. x.history) (opening_world g).past.history m d.member here in
    let second = of_there p (λ x. x.history) (opening_world g).past.history n e.member there in
    subst (λ h. AreAlong h e.member.replica.history) first (subst (AreAlong ((world g p).past.history m)) second
    (either-prefix g k.values (world g p) m n is.carried.group k.chosen
    (omega (arith, present_within p.members m d.member here, is.carried.form.all))
    (omega (arith, present_within p.members n e.member there, is.carried.form.all))))

-- ---- seats whose members run

module _ (p : Plan) (new s : Seats) (g : Ghost) (holds : Holds p new s g) where
  keeps : Keeps (opening_of p) (new_wire new) g.wire
  keeps = calls.kept-of (opening_of p) (new_wire new) g.wire holds.run

  group : (v : Voted) → Contains g.wire.votes v → IsGroup (group_of p.script v.start)
  unfolding keeps
  group v c = choice-group p.script (of_set v.logs v.call.set) v.start p.ranges (keeps.cast v c).chosen

  -- the age of a vote's call, as doors run in it
  age-of : (v : Voted) → Contains g.wire.votes v → Contains g.wire.ages v.call
      → IsAgeOfDoors p.script g.wire v (g.apart v)
  age-of v c d = record {
    nth = 0;
    begun = fresh p v.start;
    begins = fresh-begun p v.start;
    ran = holds.ran v c;
    logs = λ m inside. (holds.ups m v.call (holds.ages v.call d m inside)).left v c refl;
  }

  ages-of : AreAgesOfDoors p.script g.wire
  unfolding age-of
  ages-of v c d = (g.apart v, age-of v c d)

  -- a member that runs in an age
  record Runs (m age : ℕ) (d : Lone) : Type 0 where
    pub vote : Voted
    pub cast : Contains g.wire.votes vote
    pub began : Contains g.wire.ages vote.call
    pub same : vote.call.age ≡ age
    pub inside : has vote.call.set m ≡ true
    pub there : (v : Voted) → Contains g.wire.votes v → v.call ≡ vote.call → present_at (g.apart v).doors m ≡ Some d

  runs : (m age : ℕ) (d : Lone) → RunsIn (s.seats m) age d → Runs m age d
  unfolding keeps
  runs m age d r =
      let x = (holds.sits m).runs r.inside r.runs in
      let last = keeps.last m x.2.vote x.2.tries in
      let same : x.0 ≡ r.try = same_Some _ _ (sym x.1 ∙ r.tries) in record {
        vote = x.2.vote;
        cast = last.0;
        began = x.2.began;
        same = ap (λ c. c.age) x.2.call ∙ ap (λ t. t.call.age) same ∙ r.same;
        inside = subst (λ n. has x.2.vote.call.set n ≡ true) last.1 (keeps.cast x.2.vote last.0).inside;
        there = λ v c e. x.2.door v c e ∙ ap Some r.door;
      }

  -- its history begins with what the age started with
  starts : (m age : ℕ) (d : Lone) → (r : Runs m age d) → IsPrefixOf r.vote.start.entries d.member.replica.history
  unfolding keeps group
  starts m age d r =
      let v = r.vote in
      let present : has v.start.present m ≡ true =
      subst (λ n. has n m ≡ true) (sym (keeps.cast v r.cast).present) r.inside in
      let here = fresh-there p v.start m (omega (arith, (group v r.cast).sound.present m present, p.ranges.lists))
      present in
      prefix-trans v.start.entries (v.start.entries ++ first_view_of v.start ∷ []) d.member.replica.history
      (first_view_of v.start ∷ [], refl)
      (doors_last p.script v.start 0 (fresh p v.start) (fresh p v.start) (g.apart v)
      (group v r.cast) p.ranges.lists p.turns
      (fresh-begun p v.start) ([], refl) (holds.ran v r.cast) m (begun_lone (setup_for p v.start m)) d here
      (r.there v r.cast refl)).0

-- ---- the law

-- the logs of seats are those of the wire
logs-alike : (p : Plan) (s : Seats) (w : Wire) → ((m : ℕ) → (w.places m).lists ≡ as_lists (s.seats m).log.content)
    → logs_in (opening_of p) w ≡ logs_on p.script s
logs-alike p s w same = same-lists (λ m. (w.places m).lists) (λ m. as_lists (s.seats m).log.content)
    (length p.script.messages) (λ m l. same m)
    ∙ ap (lists_below (λ m. as_lists (s.seats m).log.content)) p.ranges.lists

-- what lasted on the logs of new seats lasted on those of the new wire
lasted : (p : Plan) (es : List Entry) (new : Seats) → AreLasting p.script es (logs_on p.script new)
    → AreLasting p.script es (logs_in (opening_of p) (new_wire new))
lasted p es new lasting = subst (λ l. AreLasting p.script es l)
    (sym (logs-alike p new (new_wire new) (λ m. refl))) lasting

pub lasts : (script : Script) (es : List Entry) (new s : Seats) → HasGroupRanges script → 1 ≤ script.turns
    → AreNew new → HaveRun script new s → AreLasting script es (logs_on script new)
    → AreLasting script es (logs_on script s)
unfolding plan-of
lasts script es new s ranges turns is run lasting =
    let p = plan-of script ranges turns in
    let t = holds-since p new s is run in
    subst (λ l. AreLasting script es l) (logs-alike p s t.0.wire (λ m. (t.1.sits m).lists))
    (calls.lasts script es (new_wire new) t.0.wire ranges t.1.run
    (ages-come script (new_wire new) t.0.wire ranges turns t.1.run (ages-of p new s t.0 t.1))
    (lasted p es new lasting))

pub begins : (script : Script) (es : List Entry) (new s : Seats) (m age : ℕ) (d : Lone) → HasGroupRanges script
    → 1 ≤ script.turns → AreNew new → HaveRun script new s → AreLasting script es (logs_on script new)
    → RunsIn (s.seats m) age d → IsPrefixOf es d.member.replica.history
unfolding plan-of keeps
begins script es new s m age d ranges turns is run lasting in-age =
    let p = plan-of script ranges turns in
    let t = holds-since p new s is run in
    let r = runs p new s t.0 t.1 m age d in-age in
    prefix-trans es r.vote.start.entries d.member.replica.history
    (calls.begins script es (new_wire new) t.0.wire r.vote ranges t.1.run
    (ages-come script (new_wire new) t.0.wire ranges turns t.1.run (ages-of p new s t.0 t.1))
    (lasted p es new lasting) r.cast ((keeps p new s t.0 t.1).opens r.vote.call r.began))
    (starts p new s t.0 t.1 m age d r)

pub logged : (script : Script) (new s : Seats) (m age : ℕ) (d : Lone) → HasGroupRanges script → 1 ≤ script.turns
    → AreNew new → HaveRun script new s → RunsIn (s.seats m) age d
    → (s.seats m).log.content.entries ≡ take d.member.replica.logged d.member.replica.history
unfolding plan-of
logged script new s m age d ranges turns is run r =
    let t = holds-since (plan-of script ranges turns) new s is run in
    let x = (t.1.sits m).runs r.inside r.runs in
    x.2.served.just.entries ∙ ap (λ (e : Lone). take e.member.replica.logged e.member.replica.history) r.door

-- a member that ran in an age, by what its door has come to since
record RanOn (p : Plan) (new : Seats) (h : Ghost) (m age : ℕ) (d : Lone) : Type 0 where
  vote : Voted
  cast : Contains h.wire.votes vote
  began : Contains h.wire.ages vote.call
  same : vote.call.age ≡ age
  inside : has vote.call.set m ≡ true
  door : Lone
  there : present_at (h.apart vote).doors m ≡ Some door
  more : IsPrefixOf d.member.replica.history door.member.replica.history
      × (d.member.replica.durable ≤ door.member.replica.durable)

ran-on : (p : Plan) (new s later : Seats) (g h : Ghost) → Holds p new s g → Holds p new later h → IsLater g h
    → (m age : ℕ) (d : Lone) → RunsIn (s.seats m) age d → RanOn p new h m age d
unfolding group
ran-on p new s later g h holds holds-later since m age d in-age =
    let r = runs p new s g holds m age d in-age in
    let v = r.vote in
    let on = since.ran v r.cast in
    let there = r.there v r.cast refl in
    let now = way-present (g.apart v) (h.apart v) on.0 m d on.1 there in record {
      vote = v;
      cast = since.votes v r.cast;
      began = since.ages v.call r.began;
      same = r.same;
      inside = r.inside;
      door = now.0;
      there = now.1;
      more = doors_last p.script v.start 0 (fresh p v.start) (g.apart v) (h.apart v) (group p new s g holds v r.cast)
          p.ranges.lists p.turns (fresh-begun p v.start) (holds.ran v r.cast) on m d now.0 there now.1;
    }

-- two that ran in one age ran by one call
one-call : (p : Plan) (new later : Seats) (h : Ghost) → Holds p new later h → (u v : Voted) (m n : ℕ)
    → Contains h.wire.ages u.call → Contains h.wire.ages v.call → has u.call.set m ≡ true → has v.call.set n ≡ true
    → u.call.age ≡ v.call.age → u.call ≡ v.call
unfolding keeps
one-call p new later h holds u v m n one other in-one in-other same =
    let k = keeps p new later h holds in
    told (calls_ordered (opening_of p) (new_wire new) h.wire u.call v.call m n holds.run (k.opens u.call one)
    (k.opens v.call other) in-one in-other)
  where
    told : (u.call ≡ v.call) ⊎ (u.call.age < v.call.age) ⊎ (v.call.age < u.call.age) → u.call ≡ v.call
    told (inl e) = e
    told (inr (inl l)) = absurd (omega (arith, l, same))
    told (inr (inr l)) = absurd (omega (arith, l, same))

pub agree : (script : Script) (new s later : Seats) (m n age : ℕ) (d e : Lone) → HasGroupRanges script
    → 1 ≤ script.turns → AreNew new → HaveRun script new s → HaveRun script s later → RunsIn (s.seats m) age d
    → RunsIn (later.seats n) age e → AreAlong d.member.replica.history e.member.replica.history
unfolding plan-of group
agree script new s later m n age d e ranges turns is run run-on one other =
    let p = plan-of script ranges turns in
    let t = holds-since p new s is run in
    let u = way-holds p new s later t.0 run-on.0 t.1 run-on.1 in
    let x = ran-on p new s later t.0 u.0 t.1 u.2 u.1 m age d one in
    let y = runs p new later u.0 u.2 n age e other in
    let same = one-call p new later u.0 u.2 x.vote y.vote m n x.began y.began x.inside y.inside
    (x.same ∙ sym y.same) in
    let prog = doors_kept script x.vote.start 0 (fresh p x.vote.start) (u.0.apart x.vote)
    (group p new later u.0 u.2 x.vote x.cast) ranges.lists turns (fresh-begun p x.vote.start)
    (u.2.ran x.vote x.cast) in
    parts_along d.member.replica.history e.member.replica.history x.door.member.replica.history
    e.member.replica.history x.more.0 (prefix_refl e.member.replica.history)
    (doors-along (group_of script x.vote.start) (u.0.apart x.vote) prog.0 m n x.door e prog.1 x.there
    (y.there x.vote x.cast same))

pub durable : (script : Script) (es : List Entry) (new s later : Seats) (m n age next : ℕ) (d e : Lone)
    → HasGroupRanges script → 1 ≤ script.turns → AreNew new → HaveRun script new s → HaveRun script s later
    → AreLasting script es (logs_on script new) → RunsIn (s.seats m) age d → RunsIn (later.seats n) next e
    → age < next
    → IsPrefixOf (take d.member.replica.durable d.member.replica.history) e.member.replica.history
unfolding plan-of keeps
durable script es new s later m n age next d e ranges turns is run run-on lasting one other below =
    let p = plan-of script ranges turns in
    let t = holds-since p new s is run in
    let u = way-holds p new s later t.0 run-on.0 t.1 run-on.1 in
    let x = ran-on p new s later t.0 u.0 t.1 u.2 u.1 m age d one in
    let y = runs p new later u.0 u.2 n next e other in
    prefix-trans (take d.member.replica.durable d.member.replica.history)
    (take x.door.member.replica.durable x.door.member.replica.history) e.member.replica.history
    (durable_front d.member.replica.durable x.door.member.replica.durable d.member.replica.history
    x.door.member.replica.history x.more.1 x.more.0)
    (prefix-trans (take x.door.member.replica.durable x.door.member.replica.history) y.vote.start.entries
    e.member.replica.history
    (door-durable script es (new_wire new) u.0.wire x.vote y.vote (u.0.apart x.vote) m x.door ranges turns u.2.run
    (ages-of p new later u.0 u.2) (lasted p es new lasting) x.cast x.began
    (age-of p new later u.0 u.2 x.vote x.cast x.began)
    x.inside x.there y.cast ((keeps p new later u.0 u.2).opens y.vote.call y.began)
    (omega (arith, x.same, y.same, below)))
    (starts p new later u.0 u.2 n next e y))
