-- What is known of a member within its turn, after its next deed.
use Rattle.std.{specs.Prelude.{None, Some, is_some}, proofs.lemmas.Option.same_Some}
use Rattle.std.proofs.Common.{◌≡◌, refl, sym, ap, ◌∙◌, subst, ℕ, ◌<◌, Bool, true, false, length}
use Rattle.dr_entry.specs.declared.end.End.{End}
use Rattle.dr_entry.specs.declared.end.End.TheVariants as ends
use Rattle.dr_machine.specs.{Acts.{CanTake, effect_of}, Group.{Group, columns, roster}, World.World}
use Rattle.dr_program.specs.{Program.{Program, next_sight, ok, step_of}, Replica.Replica, declared.place.Part.Part}
use Rattle.dr_program.{specs.{Reading.world, Steps.stepped}, proofs.Stepping.{stepped_on, stepped_replica}}
use Rattle.dr_program.specs.Running.{Running, append_or_end, crashes_now, goes, members, next_step, push_or_crash, took}
use Rattle.dr_program.specs.{Turn.{IsIn, columns_in, is_beat, part_of, rows_in}, declared.place.TheConstants.TURN}
use Rattle.dr_program.proofs.{Parts.{is_end, no_end, taken_end, is_passed, due_at}, RunningPrograms.settled_end}
use Rattle.dr_program.specs.declared.place.Part.TheVariants as parts
use Rattle.dr_program.specs.Running as running
use Rattle.dr_words.specs.{Columns.columns_of, declared.column.TheConstants.LOGGED_COLUMN}
use Rattle.dr_turn.proofs.Search.{settled_passed}
use Rattle.dr_world_laws.proofs.Worlds.{faithful, known}
use Rattle.dr_turn_laws.{specs.{Swept.Swept, Wants.SeesAllDone}, proofs.{Leaving.end_sees, Resting.Knows}}
use Rattle.dr_turn_laws.proofs.{Acts.{asks, uncrashed}, Steadying.{is_in, moved_member, steady_moves, world_on}}
use Rattle.dr_turn_laws.proofs.{Passing.{IsGoing, among, passes}, Sweeping.{swept_behind, world_behind}}
use Rattle.dr_program_laws.specs.Trusting.{AreAtEase, MayWait}
use Rattle.dr_program_laws.proofs.Trusting.{move_eases, never_passed, nobody_suspects}

-- ---- a deed

-- a move of its member leaves all at ease, where it may wait if its turn begins by it
pub ease_on : (g : Group) (p : Program) (m : ℕ) (r : Running) → IsGoing g p m r
    → (is_beat (part_of r.place) ≡ true → MayWait r) → AreAtEase (step_of p (ok m))
ease_on g p m r is waits = move_eases g p (ok m) is.steady.group is.steady.program is.steady.reached is.ease
    (λ y there. subst (λ (x : Running). is_beat (part_of x.place) ≡ true → MayWait x)
    (same_Some r y (sym is.there ∙ there)) waits)

-- member m is within its turn, no append of it has failed, and nothing is left to do before its place
pub record IsWithin (g : Group) (p : Program) (m : ℕ) (r : Running) : Type 0 where
  pub going : IsGoing g p m r
  pub begun : is_beat (part_of r.place) ≡ false
  pub well : r.failed ≡ None
  pub swept : Swept g (world g p) m r.place

-- it stands at a place of the group's turn
place_of : (g : Group) (p : Program) (m : ℕ) (r : Running) → IsGoing g p m r → IsIn (roster g) (columns g) r.place
place_of g p m r is =
    let of = is.steady.program.of m r is.there in
    let place = (is.steady.program.form m r is.there).place in record {
      part = place.part;
      row = subst (λ n. r.place.row < rows_in n (part_of r.place)) of.members place.row;
      column = subst (λ k. r.place.column < columns_in k (part_of r.place))
          (λ z. columns_of (of.members z) (of.window z)) place.column;
    }

-- behind a deed that is no crash nothing is left to do before the place where it goes on
swept_on : (g : Group) (p : Program) (m : ℕ) (r : Running) → IsWithin g p m r
    → next_step r ≡ uncrashed r (part_of r.place) r.place.row r.place.column → Swept g (world g (step_of p (ok m))) m
    (goes (members r) (running.columns r) (part_of r.place) r.place)
swept_on g p m r is plain =
    let of = is.going.steady.program.of m r is.going.there in
    let on = world_on g p m r is.going.steady is.going.there is.going.unended in
    subst (λ v. Swept g v m (goes (members r) (running.columns r) (part_of r.place) r.place))
    (sym (on.1 ∙ ap (effect_of g (world g p) m) plain)) (subst (Swept g (world_behind g (world g p) m r) m)
    (λ z. goes (sym of.members z) (columns_of (sym of.members z) (sym of.window z)) (part_of r.place) r.place)
    (swept_behind g (world g p) m r (record {
      place = place_of g p m r is.going;
      begun = is.begun;
      unpassed = never_passed g p m r (among g p m r is.going)
          (is_in g p m r is.going.steady is.going.there) is.going.unended is.well;
      published = ((faithful g (world g p) (known g (world g p) is.going.steady.group
          is.going.steady.reached)).words.own m ((world g p).past.view m) LOGGED_COLUMN).logged refl;
      can = subst (CanTake g (world g p) m) plain on.0;
      swept = is.swept;
    })))

abbrev behind : Program → Running → Part → Replica
behind p r part = stepped (next_sight p.table r) r.replica (due_at r part)

-- what is known behind the next deed
abbrev KnowsNext : Group → Program → ℕ → Running → Type 0
KnowsNext g p m r = Knows g (world g (step_of p (ok m))) m (stepped_on p r).place (stepped_on p r).replica.end

-- a member that hasn't ended goes on to its next place
onward : (g : Group) (p : Program) (m : ℕ) (r : Running) (part : Part) → IsWithin g p m r → part_of r.place ≡ part
    → due_at r part ≡ uncrashed r part r.place.row r.place.column → (behind p r part).end ≡ None → KnowsNext g p m r
onward g p m r part is at plain unended = subst (Knows g (world g (step_of p (ok m))) m (stepped_on p r).place)
    (sym none) (passes g (step_of p (ok m)) m
    (stepped_on p r) (took (next_sight p.table r) r (next_step r)).place (stepped_on p r).place (record {
      steady = steady_moves g p (ok m) is.going.steady;
      ease = ease_on g p m r is.going (λ beat. absurd (cc (beat, is.begun)));
      there = moved_member g p m r is.going.steady is.going.there is.going.unended;
      unended = none;
    }) (settled_passed (took (next_sight p.table r) r (next_step r)))
    (swept_on g p m r is (subst (λ x. due_at r x ≡ uncrashed r x r.place.row r.place.column) (sym at) plain)))
  where
    none : (stepped_on p r).replica.end ≡ None
    none = ap (λ (q : Replica). q.end) (stepped_replica p r) ∙ subst (λ x. (behind p r x).end ≡ None) (sym at) unended

-- a member that has ended stays
ended : (g : Group) (p : Program) (m : ℕ) (r : Running) (part : Part) (end : End)
    → IsWithin g p m r → part_of r.place ≡ part → (behind p r part).end ≡ Some end → Knows g (world g
    (step_of p (ok m))) m (goes (members r) (running.columns r) part r.place) (Some end) → KnowsNext g p m r
ended g p m r part end is at over known =
    subst (λ (y : Running). Knows g (world g (step_of p (ok m))) m y.place y.replica.end)
    (sym (settled_end (took (next_sight p.table r) r (next_step r)) (ap is_some some)))
    (subst (Knows g (world g (step_of p (ok m))) m (took (next_sight p.table r) r (next_step r)).place) (sym some)
    (subst (λ x. Knows g (world g (step_of p (ok m))) m
    (goes (members r) (running.columns r) x r.place) (Some end)) (sym at) known))
  where
    some : (took (next_sight p.table r) r (next_step r)).replica.end ≡ Some end
    some = subst (λ x. (behind p r x).end ≡ Some end) (sym at) over

-- the next deed of a member within its turn
pub knows_next : (g : Group) (p : Program) (m : ℕ) (r : Running) → IsWithin g p m r → KnowsNext g p m r
knows_next g p m r is = by (part_of r.place) refl
  where
    w : World
    w = world g p

    v : World
    v = world g (step_of p (ok m))

    inside : r.place.part < length TURN
    inside = (place_of g p m r is.going).part

    moved : CanTake g w m (next_step r) × (v ≡ effect_of g w m (next_step r))
    moved = world_on g p m r is.going.steady is.going.there is.going.unended

    plainly : (part : Part) → part_of r.place ≡ part → due_at r part ≡ uncrashed r part r.place.row r.place.column
        → Swept g v m (goes (members r) (running.columns r) part r.place)
    plainly part at plain = subst (λ x. Swept g v m (goes (members r) (running.columns r) x r.place)) at
        (swept_on g p m r is (subst (λ x. due_at r x ≡ uncrashed r x r.place.row r.place.column) (sym at) plain))

    halts : part_of r.place ≡ parts.Done → CanTake g w m (due_at r parts.Done)
    halts at = subst (λ x. CanTake g w m (due_at r x)) at moved.0

    sees : part_of r.place ≡ parts.Done → SeesAllDone v m
    sees at = subst (λ u. SeesAllDone u m) (sym (moved.1 ∙ ap (λ x. effect_of g w m (due_at r x)) at))
        (end_sees w m ends.Done
        (asks g w m (due_at r parts.Done) (λ end. ((halts at).may, nobody_suspects g p m is.going.ease)) (halts at)))

    push : (b : Bool) → crashes_now r ≡ b → part_of r.place ≡ parts.Push → KnowsNext g p m r
    push true crash at = ended g p m r parts.Push ends.Crashed is at
        (ap (λ b. (stepped (next_sight p.table r) r.replica
        (push_or_crash b r.place.row r.place.column)).end) crash) tt
    push false crash at = onward g p m r parts.Push is at (ap (λ b. push_or_crash b r.place.row r.place.column) crash)
        (ap (λ b. (stepped (next_sight p.table r) r.replica
        (push_or_crash b r.place.row r.place.column)).end) crash ∙ is.going.unended)

    elsewhere : (part : Part) → part_of r.place ≡ part → is_passed part ≡ true → KnowsNext g p m r
    elsewhere part at passed = absurd (cc (
      passed,
      ap is_passed at,
      never_passed g p m r (among g p m r is.going) (is_in g p m r is.going.steady is.going.there)
          is.going.unended is.well,
    ))

    by : (part : Part) → part_of r.place ≡ part → KnowsNext g p m r
    by parts.Take at = elsewhere parts.Take at refl
    by parts.Judge at = elsewhere parts.Judge at refl
    by parts.Vote at = elsewhere parts.Vote at refl
    by parts.Excluded at = elsewhere parts.Excluded at refl
    by parts.Give at = elsewhere parts.Give at refl
    by parts.Append at = onward g p m r parts.Append is at (ap append_or_end is.well)
        (ap (λ o. (stepped (next_sight p.table r) r.replica (append_or_end o)).end) is.well ∙ is.going.unended)
    by parts.Push at = push (crashes_now r) refl at
    by parts.Crash at = ended g p m r parts.Crash ends.Crashed is at refl tt
    by parts.Done at = ended g p m r parts.Done ends.Done is at refl (plainly parts.Done at refl, at, sees at)
    by parts.Spent at = ended g p m r parts.Spent (ends.Spent r.replica.turns) is at refl
        (plainly parts.Spent at refl, at)
    by (parts.Do a) at = onward g p m r (parts.Do a) is at refl
        (taken_end r.replica a (sym (ap is_end at) ∙ no_end r.place.part inside) ∙ is.going.unended)
    by part at = onward g p m r part is at refl is.going.unended
