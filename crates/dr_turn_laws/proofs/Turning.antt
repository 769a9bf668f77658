-- A whole turn of a member.
use Rattle.std.{specs.Prelude.{All, Option, None, Some, is_some}, proofs.lemmas.Option.same_Some}
use Rattle.std.proofs.Common.{◌≡◌, ◌≢◌, refl, sym, ap, ◌∙◌, subst, ◌⊎◌, ℕ, suc, ◌+◌, ◌<◌, ◌≤◌, ◌||◌, true, false, List, [], ◌∷◌, length, take, le_trans, arith}
use Rattle.dr_entry.{specs.declared.end.End.End, proofs.Ends.going}
use Rattle.dr_entry.specs.declared.end.End.TheVariants as ends
use Rattle.dr_faithful.{specs.{Chosen.views_by, Faithful.Faithful}, proofs.Faithfulness.grew}
use Rattle.dr_history.specs.Members.{has}
use Rattle.dr_machine.specs.{Acts.{CanTake, effect_of}, Effects.one_more, Group.Group, World.World, Writes.at}
use Rattle.dr_machine.proofs.Worlds.{one_turn}
use Rattle.dr_program.{specs.{Form.IsRunningMember, Presence.present_at}, proofs.{Holdings.held_of, Programs.is_move}}
use Rattle.dr_program.specs.{Program.{AllOk, Move, Program, next_sight, ok, ran, step_of}, declared.place.Place.Place}
use Rattle.dr_program.{specs.Reading.{table_of, world}, proofs.Stepping.{stepped_failed, stepped_on, stepped_replica}}
use Rattle.dr_program.specs.{Replica.Replica, Running.{Running, goes, members, next_step, step_at, took, waits_after}}
use Rattle.dr_program.specs.{Schedule.{IsTurn, is_between_turns}, Turn.{after, is_beat, part_of, turn_begins}}
use Rattle.dr_program.{specs.Steps.stepped, proofs.{Deeds.replicas, Search.beat_test, StepsAt.turns_on}}
use Rattle.dr_suspect.specs.Waits.{Waits, beat_of, turns_without_news}
use Rattle.dr_turn.{specs.Search.IsUnderway, proofs.{Deeds.beat_place, Search.settled_passed}}
use Rattle.dr_words.specs.declared.column.TheConstants.{BEAT_COLUMN}
use Rattle.dr_program.specs.Running as running
use Rattle.dr_refine.proofs.Deeds.{program_member}
use Rattle.dr_world_laws.proofs.Worlds.{Known, all_go_on, faithful, known}
use Rattle.dr_program_laws.specs.{Failing.has_log_end, Trusting.{AreAtEase, MayWait, to_come}}
use Rattle.dr_program_laws.proofs.Patience.{comes}
use Rattle.dr_turn_laws.{specs.Rested.{HasCompared, HasTurned}, proofs.Stepping.{ease_on, knows_next}}
use Rattle.dr_turn_laws.{specs.{Steady.IsSteady, Swept.{IsBefore, Swept}}, proofs.Passing.{IsGoing, passes}}
use Rattle.dr_turn_laws.proofs.{Beats.beat_rises, Steadying.{moved_member, other_member, steady_moves, world_on}}
use Rattle.dr_turn_laws.proofs.{Looking.{HasLooked, deed_behind, settled_behind}, Resting.{Knows, knows_logs, rests}}

-- ---- what a deed leaves of turns and own words

-- no own word falls
deed_rises : (g : Group) (p : Program) (m : ℕ) (r : Running) → IsGoing g p m r → (v c : ℕ)
    → (world g p).past.own m v c ≤ (world g (step_of p (ok m))).past.own m v c
deed_rises g p m r is v c =
    let on = world_on g p m r is.steady is.there is.unended in
    let y = known g (world g p) is.steady.group is.steady.reached in
    subst (λ (u : World). (world g p).past.own m v c ≤ u.past.own m v c) (sym on.1)
    ((grew g (views_by g y.values) (world g p) m (next_step r) is.steady.group
    (all_go_on g (world g p) is.steady.group y) on.0 (faithful g (world g p) y)).own m v c).number

-- what the world has of a member's turns and end
turns_are : (g : Group) (p : Program) (m : ℕ) (r : Running) → IsSteady g p
    → present_at p.members m ≡ Some r → (world g p).turns m ≡ r.replica.turns
turns_are g p m r is there = ap (λ h. h.turns) (held_of g (replicas p.members) (table_of p) m r.replica
    (program_member g p m r is.group is.program there).there)

end_is : (g : Group) (p : Program) (m : ℕ) (r : Running) → IsSteady g p
    → present_at p.members m ≡ Some r → (world g p).end m ≡ r.replica.end
end_is g p m r is there = ap (λ h. h.end) (held_of g (replicas p.members) (table_of p) m r.replica
    (program_member g p m r is.group is.program there).there)

-- ---- a turn

-- m has gone from p to u, within its turn
record HasGone (g : Group) (p : Program) (m : ℕ) (u : Program) : Type 0 where
  steady : IsSteady g u
  ease : AreAtEase u
  member : Running
  there : present_at u.members m ≡ Some member
  well : member.failed ≡ None
  knows : Knows g (world g u) m member.place member.replica.end
  others : (i : ℕ) → i ≢ m → present_at u.members i ≡ present_at p.members i
  turns : (world g u).turns m ≡ (world g p).turns m + 1
  rises : (v c : ℕ) → (world g p).past.own m v c ≤ (world g u).past.own m v c
  beats : (world g p).past.own m 0 BEAT_COLUMN < (world g u).past.own m 0 BEAT_COLUMN
  start : Running
  began : present_at p.members m ≡ Some start
  looked : HasLooked g (world g u) m start.waits member

-- ---- its first deed

-- it stands at the first place of the turn that it begins, before the search
first_place : (g : Group) (p : Program) (m : ℕ) (r : Running) → IsGoing g p m r → part_of r.place ≡ turn_begins
    → (took (next_sight p.table r) r (next_step r)).place ≡ record { part = 0; row = 0; column = 0 }
first_place g p m r is at = ap (λ x. goes (members r) (running.columns r) x r.place) at
    ∙ ap (after (members r) (running.columns r)) (beat_place r underway at)
  where
    form : IsRunningMember r
    form = is.steady.program.form m r is.there

    underway : IsUnderway r
    underway = record {
      replica = form.replica;
      place = form.place;
      turns = form.turns;
      waits = form.waits;
      free = form.free;
      left = form.left;
    }

-- nothing comes before that
begins : (g : Group) (p : Program) (m : ℕ) (r : Running) → IsGoing g p m r → part_of r.place ≡ turn_begins
    → Swept g (world g (step_of p (ok m))) m (took (next_sight p.table r) r (next_step r)).place
begins g p m r is at q inside before =
    absurd (nothing q.part q.row q.column (subst (IsBefore q) (first_place g p m r is at) before))
  where
    nothing : (a i c : ℕ) → (a < 0) ⊎ ((a ≡ 0) × ((i < 0) ⊎ ((i ≡ 0) × (c < 0)))) → ⊥
    nothing a i c earlier = grind (arith, earlier)

-- and all rows are to come
begins_looking : (g : Group) (p : Program) (m : ℕ) (r : Running) → IsGoing g p m r → part_of r.place ≡ turn_begins
    → HasLooked g (world g (step_of p (ok m))) m r.waits (took (next_sight p.table r) r (next_step r))
begins_looking g p m r is at = record {
  limit = ap (λ (w : Waits). w.limit) waits;
  still = λ i l d one. (ap (λ (w : Waits). turns_without_news w i) waits, ap (λ (w : Waits). beat_of w i) waits);
  news = λ i l d come. absurd (cc (sym come ∙ ap (λ q. comes q i) (first_place g p m r is at) ∙ one i));
}
  where
    one : (i : ℕ) → comes (record { part = 0; row = 0; column = 0 }) i ≡ 1
    one i = refl

    waits : (took (next_sight p.table r) r (next_step r)).waits ≡ r.waits
    waits = ap (λ part. waits_after (next_sight p.table r) r (step_at r part r.place.row r.place.column)) at

-- the first deed begins a turn
first_deed : (g : Group) (p : Program) (m : ℕ) (r : Running) → IsGoing g p m r → r.failed ≡ None → MayWait r
    → part_of r.place ≡ turn_begins → HasGone g p m (step_of p (ok m))
first_deed g p m r is well waits begins_at = record {
  steady = steady;
  ease = ease_on g p m r is (λ beat. waits);
  member = stepped_on p r;
  there = there;
  well = stepped_failed p r ∙ well;
  knows = subst (Knows g after_it m (stepped_on p r).place) (sym none) (passes g (step_of p (ok m)) m
      (stepped_on p r) (took (next_sight p.table r) r (next_step r)).place (stepped_on p r).place (record {
        steady = steady;
        ease = ease_on g p m r is (λ beat. waits);
        there = there;
        unended = none;
      }) (settled_passed (took (next_sight p.table r) r (next_step r))) (begins g p m r is begins_at));
  others = λ i other. other_member g p m r i is.steady is.there is.unended other;
  turns = ap (λ (u : World). u.turns m) on.1
      ∙ ap (λ x. (effect_of g (world g p) m (step_at r x r.place.row r.place.column)).turns m) begins_at
      ∙ at_here (world g p).turns m (one_more 32 ((world g p).turns m)) ∙ one_turn ((world g p).turns m) r.limit
      (omega (arith, turns_are g p m r is.steady is.there, left)) (is.steady.limits m r is.there);
  rises = deed_rises g p m r is;
  beats = beat_rises g p m r is begins_at;
  start = r;
  began = is.there;
  looked = settled_behind g p m r r.waits is (ease_on g p m r is (λ beat. waits))
      (begins_looking g p m r is begins_at);
}
  where
    after_it : World
    after_it = world g (step_of p (ok m))

    steady : IsSteady g (step_of p (ok m))
    steady = steady_moves g p (ok m) is.steady

    there : present_at (step_of p (ok m)).members m ≡ Some (stepped_on p r)
    there = moved_member g p m r is.steady is.there is.unended

    on : CanTake g (world g p) m (next_step r)
        × (world g (step_of p (ok m)) ≡ effect_of g (world g p) m (next_step r))
    on = world_on g p m r is.steady is.there is.unended

    left : r.replica.turns < r.limit
    left = (is.steady.program.form m r is.there).left is.unended begins_at

    none : (stepped_on p r).replica.end ≡ None
    none = ap (λ (q : Replica). q.end) (stepped_replica p r) ∙ ap (λ x. (stepped (next_sight p.table r) r.replica
        (step_at r x r.place.row r.place.column)).end) begins_at ∙ is.unended

    at_here : (f : ℕ → ℕ) (i x : ℕ) → at f i x i ≡ x
    at_here f i x = grind arith

-- ---- the rest of them

next_deed : (g : Group) (p : Program) (m : ℕ) (u : Program) → HasGone g p m u
    → is_between_turns (present_at u.members m) ≡ false → HasGone g p m (step_of u (ok m))
next_deed g p m u gone between = record {
  steady = steady_moves g u (ok m) gone.steady;
  ease = ease_on g u m r is (λ beat. absurd (cc (beat, amid.1)));
  member = stepped_on u r;
  there = moved_member g u m r gone.steady gone.there amid.0;
  well = stepped_failed u r ∙ gone.well;
  knows = knows_next g u m r (record {
    going = is;
    begun = amid.1;
    well = gone.well;
    swept = subst (Knows g (world g u) m r.place) amid.0 gone.knows;
  });
  others = λ i other. other_member g u m r i gone.steady gone.there amid.0 other ∙ gone.others i other;
  turns = ap (λ (v : World). v.turns m) (world_on g u m r gone.steady gone.there amid.0).1
      ∙ turns_on g (world g u) m r (part_of r.place) r.place.row r.place.column amid.1 ∙ gone.turns;
  rises = λ v c. le_trans (gone.rises v c) (deed_rises g u m r is v c);
  beats = le_trans gone.beats (deed_rises g u m r is 0 BEAT_COLUMN);
  start = gone.start;
  began = gone.began;
  looked = settled_behind g u m r gone.start.waits is (ease_on g u m r is (λ beat. absurd (cc (beat, amid.1))))
      (deed_behind g u m r gone.start.waits is amid.1 gone.looked);
}
  where
    r : Running
    r = gone.member

    amid : (r.replica.end ≡ None) × (is_beat (part_of r.place) ≡ false)
    amid = going r.replica.end (is_beat (part_of r.place)) (sym (ap is_between_turns gone.there) ∙ between)

    is : IsGoing g u m r
    is = record { steady = gone.steady; ease = gone.ease; there = gone.there; unended = amid.0 }

-- by these moves of it, behind none of which but the last it is between turns
goes_on : (g : Group) (p : Program) (m : ℕ) (es : List Move) (u : Program) → HasGone g p m u
    → All (λ (e : Move). e.member ≡ m) es → AllOk es
    → ((k : ℕ) → k < length es → is_between_turns (present_at (ran u (take k es)).members m) ≡ false)
    → HasGone g p m (ran u es)
unfolding ran
goes_on g p m [] u gone own well between = gone
goes_on g p m (e ∷ es) u gone own well between = goes_on g p m es (step_of u e)
    (subst (λ x. HasGone g p m (step_of u x)) (sym (is_move e m (own 0 e (omega arith)) (well 0 e (omega arith))))
    (next_deed g p m u gone (between 0 (omega arith)))) (λ k d l. own (suc k) d (omega (arith, l)))
    (λ k d l. well (suc k) d (omega (arith, l))) (λ k l. between (suc k) (omega (arith, l)))

-- ---- the whole turn

-- behind the turn no row is to come, unless the member has crashed in it
all_come : (g : Group) (w : World) (m : ℕ) (p : Place) (o : Option End) (i : ℕ) → Knows g w m p o
    → o ≢ Some ends.Crashed → (is_some o || is_beat (part_of p)) ≡ true → comes p i ≡ 0
all_come g w m p None i known alive between = ap (λ part. to_come part p.row i) (beat_test (part_of p) between)
all_come g w m p (Some ends.Done) i known alive between = ap (λ part. to_come part p.row i) known.1
all_come g w m p (Some (ends.Spent n)) i known alive between = ap (λ part. to_come part p.row i) known.1
all_come g w m p (Some ends.Crashed) i known alive between = absurd (alive refl)
all_come g w m p (Some end) i known alive between = absurd known

-- a member that has gone so far that it is between turns has taken a whole turn
turned : (g : Group) (p : Program) (m : ℕ) (q : Program) → HasGone g p m q
    → is_between_turns (present_at q.members m) ≡ true → HasTurned g p m q
turned g p m q gone whole = record {
  steady = gone.steady;
  ease = gone.ease;
  rested = rests g (world g q) m gone.member.place gone.member.replica.end
      (end_is g q m gone.member gone.steady gone.there) (gone.steady.program.form m gone.member gone.there).place.part
      (sym (ap is_between_turns gone.there) ∙ whole) (λ i member. told.views.within
      ((world g q).past.view m) i (sym (ap (λ x. has x i) (told.views.own m)) ∙ member)) gone.knows;
  well = λ y there. subst (λ (x : Running). x.failed ≡ None)
      (same_Some gone.member y (sym gone.there ∙ there)) gone.well;
  logs = ap has_log_end (end_is g q m gone.member gone.steady gone.there)
      ∙ knows_logs g (world g q) m gone.member.place gone.member.replica.end gone.knows;
  others = gone.others;
  turns = gone.turns;
  rises = gone.rises;
  beats = gone.beats;
  compared = λ alive r x there here i l d. subst (λ (s : Running). HasCompared s.waits x.waits i
      ((world g q).seen m i BEAT_COLUMN)) (same_Some gone.start r (sym gone.began ∙ there))
      (subst (λ (s : Running). HasCompared gone.start.waits s.waits i ((world g q).seen m i BEAT_COLUMN))
      (same_Some gone.member x (sym gone.there ∙ here))
      (gone.looked.news i l d (all_come g (world g q) m gone.member.place gone.member.replica.end i gone.knows
      (λ e. alive (end_is g q m gone.member gone.steady gone.there ∙ e))
      (sym (ap is_between_turns gone.there) ∙ whole))));
  limit = λ r x there here. ap (λ (s : Running). s.waits.limit) (same_Some x gone.member (sym here ∙ gone.there))
      ∙ gone.looked.limit ∙ ap (λ (s : Running). s.waits.limit) (same_Some gone.start r (sym gone.began ∙ there));
}
  where
    y : Known g (world g q)
    y = known g (world g q) gone.steady.group gone.steady.reached

    told : Faithful g (views_by g y.values) (world g q)
    told = faithful g (world g q) y

-- a member that stands before a turn takes it, where no append of it has failed or fails
pub takes_turn : (g : Group) (p : Program) (m : ℕ) (r : Running) (es : List Move) (q : Program)
    → IsSteady g p → AreAtEase p → present_at p.members m ≡ Some r → r.replica.end ≡ None
    → r.failed ≡ None → MayWait r → part_of r.place ≡ turn_begins → AllOk es → IsTurn m p es q → HasTurned g p m q
unfolding ran
takes_turn g p m r [] q is calm there unended unfailed waits begins_at well turn = absurd (omega (arith, turn.some))
takes_turn g p m r (e ∷ es) q is calm there unended unfailed waits begins_at well turn = turned g p m q
    (subst (HasGone g p m) (sym turn.taken) (goes_on g p m es (step_of p e) (subst (λ x. HasGone g p m (step_of p x))
    (sym (is_move e m (turn.own 0 e (omega arith)) (well 0 e (omega arith))))
    (first_deed g p m r (record { steady = is; ease = calm; there = there; unended = unended }) unfailed waits
    begins_at)) (λ k d l. turn.own (suc k) d (omega (arith, l))) (λ k d l. well (suc k) d (omega (arith, l)))
    (λ k l. turn.first (suc k) (omega arith) (omega (arith, l))))) turn.whole
