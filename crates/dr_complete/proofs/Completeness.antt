-- In lockstep, without crashes, suspicions and failed appends and with turns enough, all members end as done,
-- with everything.
use Rattle.std.specs.Prelude.{IsTrue, Option, is_some, option_map, slice_get}
use Rattle.std.proofs.Common.{List, Some, [], ap, arith, inl, inr, map, refl, subst, sym, ℕ, ◌*◌, ◌+◌, ◌<◌, ◌^◌, ◌∙◌, ◌≡◌, ◌≤◌, ◌⊎◌}
use Rattle.std.proofs.lemmas.{List.length-map, Option.{same_Some, slice_get_within}}
use Rattle.dr_entry.{specs.declared.end.MemberEnd.MemberEnd, proofs.{Ends.upright_end, ListPlaces.zero_at}}
use Rattle.dr_entry.specs.declared.end.End.TheVariants as ends
use Rattle.dr_history.specs.Soundness.{IsNobodyLate}
use Rattle.dr_history_laws.specs.Remaining.{messages_left}
use Rattle.dr_words.specs.declared.column.TheConstants.{BEAT_COLUMN}
use Rattle.dr_machine.specs.{Group.{AllPresent, Group, IsGroup, roster}, World.{World, opening_world}}
use Rattle.dr_machine.proofs.Groups.{ArePushed, begins_pushed}
use Rattle.dr_program.specs.{Presence.present_at, Reading.world, Schedule.IsLockstep}
use Rattle.dr_program.specs.Program.{AllOk, AreSetups, Move, Program, begun_program, end_of, ran, end_at}
use Rattle.dr_program.{specs.Running.{Running, begun_running}, proofs.{Deeds.of_there, Opening.begins_at_the_opening}}
use Rattle.dr_program.{specs.declared.setup.Setup.Setup, proofs.{Holdings.along_none, RunningPrograms.HasWaited}}
use Rattle.dr_program.proofs.Present.{present_within, ended_there, end_told, began_by, begins_whole, begins_well, begins_uncounted}
use Rattle.dr_program_laws.proofs.Ending as ending
use Rattle.dr_program_laws.{specs.{Ended.IsComplete, Trusting.IsAtEase}, proofs.Programs.all_stand}
use Rattle.dr_complete.{specs.Time.{AllLenient, IsLenient}, proofs.{Between.IsBetween, Rounds.rounds_keep}}
use Rattle.dr_suspect.specs.Waits.{beat_of, turns_without_news}
use Rattle.dr_turn_laws.proofs.Steadying.{steady_begins, member_at}

-- ---- the beginning

patient_at : (setups : List (Option Setup)) (m : ℕ) (s : Setup) → AllLenient setups → present_at setups m ≡ Some s
    → IsLenient s
patient_at setups m s calm there = calm m s there

begins_easy : (setups : List (Option Setup)) → AllLenient setups
    → (m : ℕ) (r : Running) → present_at (map (option_map begun_running) setups) m ≡ Some r → IsAtEase r
begins_easy setups calm m r there = subst IsAtEase t.2 (easy so.patience)
  where
    t : (s : Setup) × (present_at setups m ≡ Some s) × (begun_running s ≡ r)
    t = began_by setups m r there

    so : IsLenient t.0
    so = patient_at setups m t.0 calm t.1

    easy : (t.0.patience ≡ 0) ⊎ (3 ≤ t.0.patience) → IsAtEase (begun_running t.0)
    easy (inl none) =
        record { first = refl; unwedged = refl; patient = inl none; unscripted = so.unscripted; kept = refl }
    easy (inr long) = record {
      first = refl;
      unwedged = refl;
      patient = inr (λ i is. omega (arith, long, zero_at i));
      unscripted = so.unscripted;
      kept = refl;
    }

begins_waiting : (g : Group) (setups : List (Option Setup)) → AllLenient setups → (m : ℕ) (r : Running)
    → present_at (map (option_map begun_running) setups) m ≡ Some r
    → ((i : ℕ) → (world g (begun_program g setups)).seen m i BEAT_COLUMN ≡ 0)
    → HasWaited g (world g (begun_program g setups)) m r
begins_waiting g setups calm m r there unseen = record {
  limit = subst (λ (x : Running). (x.waits.limit ≡ 0) ⊎ (3 ≤ x.waits.limit)) t.2
      (patient_at setups m t.0 calm t.1).patience;
  beat = λ i l d. ap (λ (x : Running). beat_of x.waits i) (sym t.2) ∙ zero_at i ∙ sym (unseen i);
  few = λ i l d going. omega (arith, ap (λ (x : Running). turns_without_news x.waits i) t.2, zero_at i);
}
  where
    t : (s : Setup) × (present_at setups m ≡ Some s) × (begun_running s ≡ r)
    t = began_by setups m r there

-- so no round is over yet
begins : (g : Group) (limit most : ℕ) (setups : List (Option Setup)) → IsGroup g → IsNobodyLate g.opening
    → 1 ≤ limit → limit < 2 ^ 32 → AllPresent g → AreSetups g limit setups → AllLenient setups
    → IsBetween g setups most 0 0 (begun_program g setups)
unfolding ran
begins g limit most setups is nobody some small whole are calm = record {
  paused = record {
    steady = steady_begins g limit setups is nobody some small whole are;
    ease = begins_easy setups calm;
    stand = all_stand g limit setups [] is some are;
    well = begins_well setups;
    whole = begins_whole setups;
    upright = λ i l. inl (ap (λ (w : World). w.end i) opens);
    pushed = subst (ArePushed g) (sym opens) (begins_pushed g);
    waits = λ m y there. begins_waiting g setups calm m y there (λ i. ap (λ
        (w : World). w.seen m i BEAT_COLUMN) opens);
  };
  fresh = λ unended m i y there l d after. inl (begins_uncounted setups m y there i);
  state = inr (record {
    early = omega arith;
    unended = λ i l. ap (λ (w : World). w.end i) opens;
    gone = λ i l h. absurd (omega (arith, h));
    ahead = λ i l h. (ap (λ (w : World). w.turns i) opens, along_none g most i _);
  });
}
  where
    opens : world g (begun_program g setups) ≡ opening_world g
    opens = begins_at_the_opening g limit setups is are

-- ---- the end

-- a member that has ended so is complete
complete : (g : Group) (setups : List (Option Setup)) (most r m : ℕ) (p : Program) (y : Running)
    → IsBetween g setups most r 0 p → present_at p.members m ≡ Some y → IsTrue (is_some y.replica.end)
    → IsComplete g.opening (end_of y)
complete g setups most r m p y between there ended =
    let steady = between.paused.steady in
    let l : m < roster g = omega (arith, present_within p.members m y there, steady.program.all) in
    let end_is = of_there p (λ q. q.end) (opening_world g).end m y there in
    let end : y.replica.end ≡ Some ends.Done =
    upright_end y.replica.end (rw end_is at (between.paused.upright m l)) ended in
    ending.complete g p m y (record {
      group = steady.group;
      program = steady.program;
      reached = steady.reached;
      there = there;
    }) end (between.paused.ease m y there).first

-- in lockstep, without crashes, suspicions and failed appends and with turns enough, all members are
pub completes : (g : Group) (limit most : ℕ) (setups : List (Option Setup)) (es : List Move) (p : Program)
    → IsGroup g → AllPresent g → IsNobodyLate g.opening → AreSetups g limit setups
    → ((m : ℕ) (s : Setup) → present_at setups m ≡ Some s → s.crashes ≡ []) → AllLenient setups
    → ((s : ℕ) → messages_left g.opening s ≤ most) → 3 * most + 3 ≤ limit → limit < 2 ^ 32
    → AllOk es → IsLockstep (begun_program g setups) es p → (m : ℕ) (e : MemberEnd)
    → slice_get (map end_at p.members) m ≡ Some e → IsComplete g.opening e
completes g limit most setups es p is whole nobody are uncrashed calm few enough small well run m e at =
    subst (IsComplete g.opening) (same_Some (end_of y.0) e (sym (end_told p m y.0 y.1) ∙ at))
    (complete g setups most over.0 m p y.0 over.1 y.1 (ended_there p m y.0 run.ended y.1))
  where
    over : (n : ℕ) × IsBetween g setups most n 0 p
    over = rounds_keep g setups limit most run.rounds 0 (begun_program g setups) es p
        (record { are = are; uncrashed = uncrashed; few = few; enough = enough })
        (begins g limit most setups is nobody (omega (arith, enough)) small whole are calm) well run.ran

    y : (r : Running) × (present_at p.members m ≡ Some r)
    y = member_at g p m over.1.paused.steady (omega (
      arith,
      slice_get_within (map end_at p.members) m e at,
      length-map p.members end_at,
      over.1.paused.steady.program.all,
    ))
