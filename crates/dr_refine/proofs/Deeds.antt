-- The next deed of a running member is a step of the machine.
use Rattle.std.{specs.Prelude.{Option, Some, None}, proofs.lemmas.Bool.and_from}
use Rattle.std.proofs.Common.{◌≡◌, refl, sym, ap, ◌∙◌, subst, ℕ, false, ◌⊎◌, inl, inr, List, [], ◌∷◌}
use Rattle.dr_program.specs.{Net.IsOnItsWay, Presence.{present_at, with_present}}
use Rattle.dr_program.specs.Program.{Program, Move, after_deed, comes_to, letter_for, moved_by, next_sight, step_of}
use Rattle.dr_program.specs.{Reading.{step_by, step_due, table_of, world, letters_of, word_of}, Replica.is_inside}
use Rattle.dr_program.specs.Running.{Running, after_step, asks, next_step, settled, took, took_letter, AsksForLetter}
use Rattle.dr_program.specs.{Steps.{sight, stored, stored_letters, IsNoJoin}, declared.outcome.Outcome.Outcome}
use Rattle.dr_program.proofs.Deeds.{replicas, replica_there, settled_world, due_allowed, step_is, no_step_no_change}
use Rattle.dr_program.proofs.{Joins.has_letter, Runs.{came_to, joins_outside}, Waiting.free_step}
use Rattle.dr_entry.specs.declared.{end.End.End, entry.Entry.Entry}
use Rattle.dr_machine.specs.{Acts.{CanTake, Guard, effect, effect_of}, Events.event_of, Group.{Group, IsGroup}}
use Rattle.dr_machine.specs.{Run.{ComesNext, ComesOfEvents, IsReached}, World.World, declared.event.Event.Event}
use Rattle.dr_machine.{specs.declared.step.Step.{Step, TheVariants.Push}, proofs.Events.is_event}
use Rattle.dr_machine.proofs.Runs.{events_more, stays_next}
use Rattle.dr_refine.{specs.Programs.{AreLetters, IsMember, IsProgram, stored_in}, proofs.Joins.join_effect}
use Rattle.dr_refine.proofs.Tests.{step_effect, step_guard, taken_guard}

-- ---- the member of the replicas

-- a member of a program is one of its group
pub program_member : (g : Group) (p : Program) (m : ℕ) (r : Running) → IsGroup g → IsProgram g p
    → present_at p.members m ≡ Some r → IsMember g (replicas p.members) (table_of p) m r.replica
program_member g p m r group is there = record {
  group = group;
  cells = is.table;
  posts = is.posts;
  there = replica_there p m r there;
  form = (is.form m r there).replica;
  of = is.of m r there;
}

-- ---- deeds

-- the step may come, and the move is its effect
abbrev pub IsStep : Group → Program → Move → Step → Type 0
IsStep g p e s = CanTake g (world g p) e.member s × (world g (step_of p e) ≡ effect_of g (world g p) e.member s)

-- a deed other than a take that takes the step that is due is that step
pub deed_step : (g : Group) (p : Program) (m : ℕ) (o : Outcome) (r : Running) → IsGroup g → IsProgram g p
    → present_at p.members m ≡ Some r → r.replica.end ≡ None → IsNoJoin (next_step r)
    → after_deed (next_sight p.table r) (letter_for p m) o r (next_step r) ≡ after_step (next_sight p.table r) r
    → IsStep g p (record { member = m; outcome = o }) (next_step r)
deed_step g p m o r group is there unended no_join takes =
    let member = program_member g p m r group is there in
    let may = due_allowed r ((is.form m r there).due unended) in (
      ((step_guard g (replicas p.members) (table_of p) m r.replica (next_step r) member unended no_join).0
          (and_from _ _ (free_step r (is.form m r there).free) may)).0,
      ap (world g) (step_is p (record { member = m; outcome = o }) r there unended) ∙ ap (λ x. world g (record {
        members = with_present p.members m x;
        table = stored p.table r.replica (next_step r);
        letters = stored_letters p.letters r.replica (next_step r);
      })) takes ∙ settled_world g p.members (stored_in (table_of p) r.replica (next_step r)) m
          (took (next_sight p.table r) r (next_step r))
          ∙ step_effect g (replicas p.members) (table_of p) m r.replica (next_step r) member may no_join,
    )

-- a take that finds a letter is a join
take_step : (g : Group) (p : Program) (m : ℕ) (o : Outcome) (r : Running) (letter : List Entry) → IsGroup g
    → IsProgram g p → AreLetters p → present_at p.members m ≡ Some r → AsksForLetter r
    → letter_for p m ≡ Some letter → IsStep g p (record { member = m; outcome = o }) (next_step r)
take_step g p m o r letter group is letters there asks found =
    let member = program_member g p m r group is there in
    let due = due_allowed r ((is.form m r there).due asks.unended) in
    let outside : is_inside r.replica ≡ false = joins_outside r.replica (next_step r) asks.due due in (
      ((taken_guard g (replicas p.members) (table_of p) m r.replica (next_step r) member asks.unended).0 (
        and_from _ _ (free_step r (is.form m r there).free) due,
        has_letter (letter_for p m) letter (next_step r) found,
      )).0,
      ap (world g) (step_is p (record { member = m; outcome = o }) r there asks.unended) ∙ ap (λ s. world g (record {
        members = with_present p.members m (after_deed (sight p.table r.replica s) (letter_for p m) o r s);
        table = stored p.table r.replica s;
        letters = stored_letters p.letters r.replica s;
      })) asks.due ∙ ap (λ l. world g (record {
        members = with_present p.members m (settled (took_letter l r));
        table = p.table;
        letters = p.letters;
      })) found ∙ settled_world g p.members (table_of p) m (took_letter (Some letter) r)
          ∙ join_effect g (replicas p.members) (table_of p) m r.replica letter member outside found
          (letters m r letter there outside found) ∙ ap (effect_of g (world g p) m) (sym asks.due),
    )

-- by the outcome
outcome_step : (g : Group) (p : Program) (m : ℕ) (r : Running) (o : Outcome) (s : Step)
    → IsGroup g → IsProgram g p → AreLetters p → present_at p.members m ≡ Some r → r.replica.end ≡ None
    → comes_to (letter_for p m) (Some (next_step r)) o ≡ Some s → IsStep g p (record { member = m; outcome = o }) s
outcome_step g p m r o s group is letters there unended came =
    let due = came_to p.table (letter_for p m) o r (next_step r) s came in
    subst (IsStep g p (record { member = m; outcome = o })) due.0 (elim due.1 [
      | inl taken ↦ deed_step g p m o r group is there unended taken.0 taken.1
      | inr join ↦ take_step g p m o r join.1.0 group is letters there
          (record { unended = unended; due = join.0 }) join.1.1
    ])

-- the deed of a member is the step of its place
pub deed_is_step : (g : Group) (p : Program) (e : Move) (r : Running) (s : Step) → IsGroup g
    → IsProgram g p → AreLetters p
    → present_at p.members e.member ≡ Some r → step_by (letter_for p e.member) r e.outcome ≡ Some s → IsStep g p e s
deed_is_step g p e r s group is letters there named = by r.replica.end refl named
  where
    by : (o : Option End) → r.replica.end ≡ o → comes_to (letter_for p e.member) (step_due r o) e.outcome ≡ Some s
        → IsStep g p e s
    by None unended came = outcome_step g p e.member r e.outcome s group is letters there unended came
    by (Some x) ended came = absurd (cc)

-- the world after a move is what an event makes of the one before, or that one still
pub step_comes : (g : Group) (p : Program) (e : Move) → IsGroup g → IsProgram g p → AreLetters p
    → ((event : Event) × Guard g (world g p) event × (world g (step_of p e) ≡ effect g (world g p) event))
    ⊎ (world g (step_of p e) ≡ world g p)
step_comes g p e group is letters = by (present_at p.members e.member) refl
  where
    named : (r : Running) → present_at p.members e.member ≡ Some r → (x : Option Step)
        → step_by (letter_for p e.member) r e.outcome ≡ x → ((event : Event) × Guard g (world g p) event
        × (world g (step_of p e) ≡ effect g (world g p) event)) ⊎ (world g (step_of p e) ≡ world g p)
    named r there None none = inr (no_step_no_change g p e r there none)
    named r there (Some s) some =
        let happened = deed_is_step g p e r s group is letters there some in
        let event = is_event g (world g p) (world g (step_of p e)) e.member s happened.0 happened.1 in
        inl (event_of e.member s, event.0, event.1)

    by : (o : Option Running) → present_at p.members e.member ≡ o → ((event : Event) × Guard g (world g p) event
        × (world g (step_of p e) ≡ effect g (world g p) event)) ⊎ (world g (step_of p e) ≡ world g p)
    by None none = inr (ap (λ x. world g (moved_by p x e)) none)
    by (Some r) there = named r there (step_by (letter_for p e.member) r e.outcome) refl

-- so it comes next
pub step_follows : (g : Group) (p : Program) (e : Move) (us : List World) → IsGroup g → IsProgram g p
    → AreLetters p → ComesNext g us (world g p) (world g (step_of p e))
step_follows g p e us group is letters = by (step_comes g p e group is letters)
  where
    by : ((event : Event) × Guard g (world g p) event × (world g (step_of p e) ≡ effect g (world g p) event))
        ⊎ (world g (step_of p e) ≡ world g p) → ComesNext g us (world g p) (world g (step_of p e))
    by (inl event) = inl event
    by (inr same) = subst (ComesNext g us (world g p)) (sym same) (stays_next g us (world g p))

-- it is reached, where the world before it is
pub step_reached : (g : Group) (p : Program) (e : Move) → IsGroup g → IsProgram g p → AreLetters p
    → IsReached g (world g p) → IsReached g (world g (step_of p e))
step_reached g p e group is letters (us, way) = (world g p ∷ us, (way, step_follows g p e us group is letters))

-- and comes of events, where that one does
pub step_events : (g : Group) (p : Program) (e : Move) → IsGroup g → IsProgram g p → AreLetters p
    → ComesOfEvents g (world g p) → ComesOfEvents g (world g (step_of p e))
step_events g p e group is letters come = by (step_comes g p e group is letters)
  where
    by : ((event : Event) × Guard g (world g p) event × (world g (step_of p e) ≡ effect g (world g p) event))
        ⊎ (world g (step_of p e) ≡ world g p) → ComesOfEvents g (world g (step_of p e))
    by (inl event) = events_more g (world g p) (world g (step_of p e)) event.0 come (inl (event.1, event.2))
    by (inr same) = subst (ComesOfEvents g) (sym same) come

-- a push that is on its way leaves the world as it is
pub way_stays : (g : Group) (p q : Program) → IsGroup g → IsProgram g p → AreLetters p → IsOnItsWay p q
    → world g q ≡ world g p
way_stays g p q group is letters on =
    let step = deed_is_step g p on.move on.member (Push on.to on.column) group is letters on.there
    (ap (λ due. comes_to (letter_for p on.move.member) due on.move.outcome) on.push) in
    ap (world g) on.made
    ∙ ap (λ (w : World). record w { table = word_of g p.table; letter = letters_of p.letters }) step.1
