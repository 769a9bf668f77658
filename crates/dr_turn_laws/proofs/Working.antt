-- With each act a member has done some of its work, or has begun a turn: so acts are few.
use Rattle.std.specs.Prelude.{None, Some}
use Rattle.std.proofs.Common.{◌≡◌, ap, ℕ, ◌+◌, ◌-◌, ◌*◌, ◌^◌, ◌<◌, ◌≤◌, true, [], ◌∷◌, length-append, arith}
use Rattle.dr_entry.specs.declared.{entry.Entry.TheVariants.View, limits.TheConstants.MAX_MEMBERS}
use Rattle.dr_entry.proofs.ListFacts.{items_begin}
use Rattle.dr_machine.specs.{Group.{Group, IsGroup}, Run.IsReached, declared.step.Step.Step}
use Rattle.dr_program.specs.{Presence.present_at, Program.{Program, next_sight}, Reading.world}
use Rattle.dr_program.specs.{Replica.{Replica, begun_replica, greatest}, Running.{Running, begun_running, next_step}}
use Rattle.dr_program.{specs.{Steps.stepped, declared.setup.Setup.Setup}, proofs.Deeds.due_allowed}
use Rattle.dr_program.proofs.{Fixed.{Told, step_told}, Parts.begins_turn}
use Rattle.dr_refine.specs.Programs.{IsProgram}
use Rattle.dr_turn.specs.Work.{ballots_left, commit_left, items_left, letters_left, log_left, mark_left, places_left, refill, reports_left, sum_of, trust_left, views_left, work}
use Rattle.dr_turn.proofs.Parts.{worked_on}
use Rattle.dr_turn_laws.specs.Steady.{HasWorked, all_work}
use Rattle.dr_program_laws.proofs.{Keeping.next_form, Sight.next_grown}

-- ---- a step

-- all the work stays what it was
all_same : (word : ℕ) (r : Replica) (s : Step) → all_work (stepped word r s) ≡ all_work r
unfolding refill
all_same word r s = ap (λ (t : Told).
    (greatest t.totals * t.roster + 2 ^ 64 + 2 ^ MAX_MEMBERS + 2 ^ MAX_MEMBERS + MAX_MEMBERS + 4) * t.banks
    + (greatest t.totals * t.roster + 2 ^ 65 + 2 * t.room + 2 ^ MAX_MEMBERS + 2 ^ MAX_MEMBERS + MAX_MEMBERS + 4))
    (step_told word r s)

-- so it is with each next step of a member
pub works_on : (g : Group) (p : Program) (m : ℕ) (r : Running) → IsGroup g → IsProgram g p
    → IsReached g (world g p) → present_at p.members m ≡ Some r → r.replica.end ≡ None
    → (begins_turn (next_step r) ≡ true → r.replica.turns + 1 < 2 ^ 32) → HasWorked r
    → let q = stepped (next_sight p.table r) r.replica (next_step r) in
    q.end ≡ None → q.acts + work q ≤ all_work q + q.turns
works_on g p m r group is run there unended turn old going = omega (
  arith,
  all_same (next_sight p.table r) r.replica (next_step r),
  worked_on (next_sight p.table r) (all_work r.replica) r.replica (next_step r) (is.form m r there).replica
      (due_allowed r ((is.form m r there).due unended)) (next_form g p m r group is run there unended)
      (next_grown g p m r group is run there unended) turn (old unended) going,
)

-- ---- the beginning

pub works_begin : (s : Setup) → HasWorked (begun_running s)
unfolding work views_left sum_of items_left places_left log_left reports_left mark_left trust_left
    ballots_left commit_left letters_left
works_begin s none = omega (
  arith,
  ap (λ b. refill (begun_replica s) * b) all,
  items_begin (greatest s.totals) s.shape.members,
  length-append s.start (View s.age 0 s.members ∷ []),
)
  where
    all : s.shape.banks - 0 ≡ s.shape.banks
    all = omega arith
