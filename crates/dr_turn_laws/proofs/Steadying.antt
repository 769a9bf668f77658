-- Programs begin steady, and moves keep them so.
use Rattle.std.{specs.Prelude.{Option, None, Some, is_some, option_map}, proofs.lemmas.Option.same_Some}
use Rattle.std.proofs.Common.{◌≡◌, ◌≢◌, refl, sym, ap, ◌∙◌, subst, inl, inr, ◌⊎◌, ℕ, ◌+◌, ◌*◌, ◌^◌, ◌<◌, ◌≤◌, Bool, true, false, List, length, arith}
use Rattle.dr_entry.specs.declared.end.End.{End}
use Rattle.dr_machine.specs.{Acts.{CanTake, effect_of}, Effects.pushes, Run.IsReached, World.World}
use Rattle.dr_machine.{specs.Group.{AllPresent, Group, IsGroup, banks, late_members, roster}, proofs.Worlds.rows_stay}
use Rattle.dr_machine.{specs.declared.step.Step.{Step, TheVariants.Do}, proofs.Presence.{late_in, is_present}}
use Rattle.dr_history.specs.{Members.has, Order.IsLateIn, Soundness.IsNobodyLate}
use Rattle.dr_program.specs.{Acts.taken, Replica.{Replica, first_entries_of, greatest, is_inside, me, pushed}}
use Rattle.dr_program.specs.Form.{IsOf}
use Rattle.dr_program.specs.{Presence.{present_at, with_present}, Reading.{step_by, step_due, table_of, world}}
use Rattle.dr_program.specs.Program.{AreSetups, IsSetup, Move, Program, after_deed, begun_program, comes_to, letter_for, moved_by, next_sight, ok, step_of}
use Rattle.dr_program.specs.Running.{Running, begun_running, broken_off, next_step, after_step, crashes_now, judged, step_at, took}
use Rattle.dr_program.specs.{Steps.{IsAppend, stepped, stored, stored_letters, IsNoJoin}, declared.setup.Setup.Setup}
use Rattle.dr_program.{specs.Turn.{is_beat, part_of}, proofs.{Parts.begins_turn, Programs.fails, Search.beat_test}}
use Rattle.dr_program.{specs.declared.outcome.LogWhy.LogWhy, proofs.Opening.{begins_at_the_opening, begun_reached}}
use Rattle.dr_program.{specs.declared.place.Part.Part, proofs.{Fixed.{step_told, Told}, RunningPrograms.HasWaited}}
use Rattle.dr_program.proofs.Deeds.{due_allowed, no_step_no_change, replicas, rest_changes_nothing, step_is}
use Rattle.dr_program.proofs.{Holdings.{held_of, own_shown}, Runs.{after_either, after_ok, inside_no_join}}
use Rattle.dr_program.proofs.Present.{present_within, present_set, present_kept, present_map, replaced_either}
use Rattle.dr_program.proofs.Stepping.{stepped_on, HasShown, stepped_replica, stepped_limit, ArePushed, step_stands, plain_begins, failed_made, failed_leaves}
use Rattle.dr_program.specs.declared.outcome.Outcome.TheVariants as outcomes
use Rattle.dr_program_laws.{specs.Trusting.{AreAtEase, MayWait}, proofs.{Keeping.move_kept, Trusting.stay_first}}
use Rattle.dr_refine.{specs.Programs.IsProgram, proofs.{Deeds.{deed_step, program_member}, Steps.begun_is_program}}
use Rattle.dr_rows.specs.Words.{last_pushed, own}
use Rattle.dr_turn.specs.Work.{work}
use Rattle.dr_words.{specs.Columns.columns_of, proofs.Layouts.begun_unpushed}
use Rattle.dr_world_laws.proofs.{Firsts.IsFirst, Worlds.{known, none_ahead}}
use Rattle.dr_turn_laws.specs.Steady.{HasRooms, HasWorked, IsSteady, all_work}
use Rattle.dr_turn_laws.proofs.Working.{works_begin, works_on}

-- ---- nobody is late

-- so each member of the program is in its view
pub is_in : (g : Group) (p : Program) (m : ℕ) (r : Running) → IsSteady g p → present_at p.members m ≡ Some r
    → is_inside r.replica ≡ true
is_in g p m r is there = by (is_inside r.replica) refl
  where
    late : is_inside r.replica ≡ false → has (late_members g) m ≡ true
    late outside = ap (has (late_members g)) (sym (is.program.of m r there).number)
        ∙ ap (λ mask. has mask (me r.replica)) (sym (is.program.of m r there).late)
        ∙ ((is.program.form m r there).replica.outside outside).late

    none : IsLateIn g.opening m → ⊥
    none late = absurd (cc (ap (λ k. has k m) is.nobody, late.0, late.1))

    by : (b : Bool) → is_inside r.replica ≡ b → is_inside r.replica ≡ true
    by true inside = inside
    by false outside = absurd (none (late_in g m is.group (late outside)))

-- so it doesn't join
pub takes_none : (g : Group) (p : Program) (m : ℕ) (r : Running) → IsSteady g p
    → present_at p.members m ≡ Some r → r.replica.end ≡ None → IsNoJoin (next_step r)
takes_none g p m r is there unended = inside_no_join r.replica (next_step r) (is_in g p m r is there)
    (due_allowed r ((is.program.form m r there).due unended))

-- ---- a move

takes_step : (g : Group) (p : Program) (m : ℕ) (r : Running) → IsSteady g p → present_at p.members m ≡ Some r
    → r.replica.end ≡ None
    → after_deed (next_sight p.table r) (letter_for p m) outcomes.Ok r (next_step r) ≡ stepped_on p r
takes_step g p m r is there unended = elim (after_ok p.table (letter_for p m) r (next_step r)) [
  | inl same ↦ same
  | inr take ↦ absurd (subst IsNoJoin take.0 (takes_none g p m r is there unended))
]

-- a move of a member without an end
move_made : (g : Group) (p : Program) (m : ℕ) (r : Running) → IsSteady g p → present_at p.members m ≡ Some r
    → r.replica.end ≡ None → step_of p (ok m) ≡ record {
      members = with_present p.members m (stepped_on p r);
      table = stored p.table r.replica (next_step r);
      letters = stored_letters p.letters r.replica (next_step r);
    }
move_made g p m r is there unended = step_is p (ok m) r there unended ∙ ap (λ x. record {
  members = with_present p.members m x;
  table = stored p.table r.replica (next_step r);
  letters = stored_letters p.letters r.replica (next_step r);
}) (takes_step g p m r is there unended)

-- leads it on
pub moved_member : (g : Group) (p : Program) (m : ℕ) (r : Running) → IsSteady g p → present_at p.members m ≡ Some r
    → r.replica.end ≡ None → present_at (step_of p (ok m)).members m ≡ Some (stepped_on p r)
moved_member g p m r is there unended =
    ap (λ (x : Program). present_at x.members m) (move_made g p m r is there unended)
    ∙ present_set p.members m (stepped_on p r) (present_within p.members m r there)

-- and leaves the others
pub other_member : (g : Group) (p : Program) (m : ℕ) (r : Running) (i : ℕ) → IsSteady g p
    → present_at p.members m ≡ Some r → r.replica.end ≡ None → i ≢ m
    → present_at (step_of p (ok m)).members i ≡ present_at p.members i
other_member g p m r i is there unended other = ap (λ (x : Program). present_at x.members i)
    (move_made g p m r is there unended) ∙ present_kept p.members m i (stepped_on p r) other

-- ---- what no step changes

-- the room
rooms_told : (g : Group) (word : ℕ) (r : Replica) (s : Step) → HasRooms g r → HasRooms g (stepped word r s)
rooms_told g word r s rooms = subst
    (λ (t : Told). length g.opening.start + banks g + greatest t.totals * roster g < t.room)
    (sym (step_told word r s)) rooms

-- ---- the program

shown_in : (g : Group) (p : Program) (m : ℕ) (r : Running) → IsSteady g p
    → present_at p.members m ≡ Some r → HasShown g (world g p) m r.replica
shown_in g p m r is there =
    let member = program_member g p m r is.group is.program there in record {
      form = member.form.rows;
      rows = member.form.members ∙ member.of.members;
      wide = member.form.columns ∙ λ z. columns_of (member.of.members z) (member.of.window z);
      view = ap (λ h. h.view) (held_of g (replicas p.members) (table_of p) m r.replica member.there);
      own = λ c. own_shown g (replicas p.members) (table_of p) m r.replica c member.there;
      unwritten = λ j c. none_ahead g (world g p) m (r.replica.view + 1) j c is.group is.reached
          (omega (arith, ap (λ h. h.view) (held_of g (replicas p.members) (table_of p) m r.replica member.there)));
    }

-- the world after the next step of a member
pub world_on : (g : Group) (p : Program) (m : ℕ) (r : Running) → IsSteady g p
    → present_at p.members m ≡ Some r → r.replica.end ≡ None → CanTake g (world g p) m (next_step r)
    × (world g (step_of p (ok m)) ≡ effect_of g (world g p) m (next_step r))
world_on g p m r is there unended = deed_step g p m outcomes.Ok r is.group is.program there unended
    (takes_none g p m r is there unended) (takes_step g p m r is there unended)

-- a member of the program after a move is the one that moved, or as it was
moved_either : (g : Group) (p : Program) (m : ℕ) (r : Running) → IsSteady g p → present_at p.members m ≡ Some r
    → r.replica.end ≡ None → (i : ℕ) (y : Running) → present_at (step_of p (ok m)).members i ≡ Some y
    → ((i ≡ m) × (stepped_on p r ≡ y)) ⊎ ((i ≢ m) × (present_at p.members i ≡ Some y))
moved_either g p m r is there unended i y at = replaced_either p.members m r (stepped_on p r) there i y
    (sym (ap (λ (x : Program). present_at x.members i) (move_made g p m r is there unended)) ∙ at)

steady_on : (g : Group) (p : Program) (m : ℕ) (r : Running) → IsSteady g p
    → present_at p.members m ≡ Some r → r.replica.end ≡ None → IsSteady g (step_of p (ok m))
steady_on g p m r is there unended = record {
  group = is.group;
  whole = is.whole;
  nobody = is.nobody;
  program = (move_kept g p (ok m) is.group is.program is.reached).0;
  reached = (move_kept g p (ok m) is.group is.program is.reached).1;
  limits = λ i y at. elim (moved_either g p m r is there unended i y at) [
    | inl here ↦ subst (λ (x : Running). x.limit < 2 ^ 32) here.1
        (omega (arith, stepped_limit p r, is.limits m r there))
    | inr there ↦ is.limits i y there.1
  ];
  rooms = λ i y at. elim (moved_either g p m r is there unended i y at) [
    | inl here ↦ subst (λ (x : Running). HasRooms g x.replica) here.1 (subst (HasRooms g) (sym (stepped_replica p r))
        (rooms_told g (next_sight p.table r) r.replica (next_step r) (is.rooms m r there)))
    | inr there ↦ is.rooms i y there.1
  ];
  works = λ i y at. elim (moved_either g p m r is there unended i y at) [
    | inl here ↦ subst HasWorked here.1 (subst (λ (q : Replica). q.end ≡ None
        → q.acts + work q ≤ all_work q + q.turns) (sym (stepped_replica p r))
        (works_on g p m r is.group is.program is.reached there unended begins_early (is.works m r there)))
    | inr there ↦ is.works i y there.1
  ];
  pushes = λ i y at. elim (moved_either g p m r is there unended i y at) [
    | inl here ↦ rw here.0 (subst (λ (x : Running). ArePushed g after m x.replica) here.1
        (subst (ArePushed g after m) (sym (stepped_replica p r))
        (subst (λ v. ArePushed g v m (stepped (next_sight p.table r) r.replica (next_step r))) (sym moved.1)
        (step_stands g (world g p) m (next_sight p.table r) r.replica (next_step r)
        (shown_in g p m r is there) (is.pushes m r there)))))
    | inr there ↦ λ j c l other low. is.pushes i y there.1 j c l other low
        ∙ sym (ap (λ (v : World). v.table y.replica.view j i c) moved.1
        ∙ rows_stay g (world g p) m (next_step r) y.replica.view j i c there.0)
  ];
}
  where
    after : World
    after = world g (step_of p (ok m))

    begins_early : begins_turn (next_step r) ≡ true → r.replica.turns + 1 < 2 ^ 32
    begins_early at = by (is_beat (part_of r.place)) refl
      where
        by : (b : Bool) → is_beat (part_of r.place) ≡ b → r.replica.turns + 1 < 2 ^ 32
        by true beat = omega (
          arith,
          (is.program.form m r there).left unended (beat_test (part_of r.place) beat),
          is.limits m r there,
        )
        by false other = absurd (cc (at, plain_begins r (part_of r.place) r.place.row r.place.column other))

    moved : CanTake g (world g p) m (next_step r)
        × (world g (step_of p (ok m)) ≡ effect_of g (world g p) m (next_step r))
    moved = world_on g p m r is there unended

-- so it keeps the program steady
steady_failed : (g : Group) (p : Program) (m : ℕ) (why : LogWhy) (r : Running) → IsSteady g p
    → present_at p.members m ≡ Some r → r.replica.end ≡ None → IsAppend (next_step r) → IsSteady g (record {
      members = with_present p.members m (broken_off why r);
      table = stored p.table r.replica (next_step r);
      letters = stored_letters p.letters r.replica (next_step r);
    })
steady_failed g p m why r is there unended due = record {
  group = is.group;
  whole = is.whole;
  nobody = is.nobody;
  program = subst (IsProgram g) made kept.0;
  reached = subst (λ q. IsReached g (world g q)) made kept.1;
  limits = λ i y at. let old = failed_leaves p m why r there i y at in
      subst (λ n. n < 2 ^ 32) old.3 (is.limits i old.0 old.1);
  rooms = λ i y at. let old = failed_leaves p m why r there i y at in
      subst (HasRooms g) old.2 (is.rooms i old.0 old.1);
  works = λ i y at none. let old = failed_leaves p m why r there i y at in
      subst (λ (q : Replica). q.acts + work q ≤ all_work q + q.turns) old.2
      (is.works i old.0 old.1 (ap (λ (q : Replica). q.end) old.2 ∙ none));
  pushes = λ i y at. let old = failed_leaves p m why r there i y at in
      subst (λ v. ArePushed g v i y.replica) (sym same)
      (subst (ArePushed g (world g p) i) old.2 (is.pushes i old.0 old.1));
}
  where
    move : Move
    move = record { member = m; outcome = outcomes.Failed why }

    made : step_of p move ≡ record {
      members = with_present p.members m (broken_off why r);
      table = stored p.table r.replica (next_step r);
      letters = stored_letters p.letters r.replica (next_step r);
    }
    made = failed_made p m why r there unended due

    kept : IsProgram g (step_of p move) × IsReached g (world g (step_of p move))
    kept = move_kept g p move is.group is.program is.reached

    none : step_by (letter_for p m) r (outcomes.Failed why) ≡ None
    none = ap (λ o. comes_to (letter_for p m) (step_due r o) (outcomes.Failed why)) unended
        ∙ (fails 0 (letter_for p m) why r (next_step r) due).1

    same : world g (record {
      members = with_present p.members m (broken_off why r);
      table = stored p.table r.replica (next_step r);
      letters = stored_letters p.letters r.replica (next_step r);
    }) ≡ world g p
    same = sym (ap (world g) made) ∙ no_step_no_change g p move r there none

-- a move keeps a program steady, however its append goes
pub steady_moves : (g : Group) (p : Program) (e : Move) → IsSteady g p → IsSteady g (step_of p e)
steady_moves g p e is = by (present_at p.members e.member) refl
  where
    at : (r : Running) → present_at p.members e.member ≡ Some r → (o : Option End) → r.replica.end ≡ o
        → IsSteady g (step_of p e)
    at r there None unended = subst (IsSteady g) (sym (step_is p e r there unended))
        (after_either (λ x. IsSteady g (record {
          members = with_present p.members e.member x;
          table = stored p.table r.replica (next_step r);
          letters = stored_letters p.letters r.replica (next_step r);
        })) p.table (letter_for p e.member) e.outcome r (next_step r)
        (subst (IsSteady g) (move_made g p e.member r is there unended) (steady_on g p e.member r is there unended))
        (λ why due. steady_failed g p e.member why r is there unended due)
        (λ take. absurd (subst IsNoJoin take (takes_none g p e.member r is there unended))))
    at r there (Some x) ended = subst (IsSteady g) (sym (rest_changes_nothing p e r there (ap is_some ended))) is

    by : (o : Option Running) → present_at p.members e.member ≡ o → IsSteady g (step_of p e)
    by None none = subst (IsSteady g) (sym (ap (λ o. moved_by p o e) none)) is
    by (Some r) there = at r there r.replica.end refl

-- ---- the beginning

-- a member that begins, where its setup is of the group
record BeginsSteady (g : Group) (turns m : ℕ) (r : Running) : Type 0 where
  limit : r.limit ≡ turns
  rooms : HasRooms g r.replica
  works : HasWorked r
  unpushed : (j c : ℕ) → last_pushed r.replica.rows j c ≡ 0

begun_member : (g : Group) (turns m : ℕ) (s : Setup) → IsSetup g turns m s → BeginsSteady g turns m (begun_running s)
begun_member g turns m s of = record {
  limit = of.turns;
  rooms = omega (arith, ap length of.start, of.banks, ap (λ n. greatest s.totals * n) of.members);
  works = works_begin s;
  unpushed = λ j c. begun_unpushed s.shape.members (columns_of s.shape.members s.shape.window) s.me
      (length (first_entries_of s)) j c;
}

-- a program begins steady
pub steady_begins : (g : Group) (turns : ℕ) (setups : List (Option Setup)) → IsGroup g → IsNobodyLate g.opening
    → 1 ≤ turns → turns < 2 ^ 32 → AllPresent g → AreSetups g turns setups → IsSteady g (begun_program g setups)
steady_begins g turns setups group nobody some small whole are = record {
  group = group;
  whole = whole;
  nobody = nobody;
  program = begun_is_program g turns setups group some are;
  reached = begun_reached g turns setups group are;
  limits = λ m r there. omega (arith, small, (begins m r there).limit);
  rooms = λ m r there. (begins m r there).rooms;
  works = λ m r there. (begins m r there).works;
  pushes = λ m r there j c l other low. (begins m r there).unpushed j c
      ∙ sym (ap (λ (w : World). w.table r.replica.view j m c) (begins_at_the_opening g turns setups group are));
}
  where
    named : (m : ℕ) (r : Running) (o : Option Setup) → present_at setups m ≡ o
        → option_map begun_running o ≡ Some r → BeginsSteady g turns m r
    named m r None e there = absurd (cc)
    named m r (Some s) e there = subst (BeginsSteady g turns m) (same_Some (begun_running s) r there)
        (begun_member g turns m s (are.each m s e))

    begins : (m : ℕ) (r : Running) → present_at (begun_program g setups).members m ≡ Some r → BeginsSteady g turns m r
    begins m r there = named m r (present_at setups m) refl (sym (present_map begun_running setups m) ∙ there)

-- each member of the roster is there
pub member_at : (g : Group) (p : Program) (m : ℕ) → IsSteady g p → m < roster g
    → (r : Running) × (present_at p.members m ≡ Some r)
member_at g p m steady l = steady.program.there m l (is_present g m steady.whole l)

-- its world is one in which everybody is in the first view
pub first_of : (g : Group) (p : Program) → IsSteady g p → AreAtEase p → IsFirst g (world g p)
first_of g p steady ease = record {
  group = steady.group;
  known = known g (world g p) steady.group steady.reached;
  whole = steady.whole;
  nobody = steady.nobody;
  view = λ m. stay_first g p m ease;
}

-- it hasn't waited too long as its turn begins
pub may_wait : (g : Group) (p : Program) (x : ℕ) (y : Running) → IsSteady g p → present_at p.members x ≡ Some y
    → y.replica.end ≡ None → HasWaited g (world g p) x y → MayWait y
may_wait g p x y steady there none waited = by waited.limit
  where
    of : IsOf g x y.replica
    of = steady.program.of x y there

    by : (y.waits.limit ≡ 0) ⊎ (3 ≤ y.waits.limit) → MayWait y
    by (inl unlimited) = inl unlimited
    by (inr long) = inr (λ i is. omega (
      arith,
      long,
      waited.few i (omega (arith, is.0, of.members)) (λ same. is.1 (same ∙ sym of.number)) none,
    ))
