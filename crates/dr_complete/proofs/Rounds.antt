-- Rounds: each member has its turn, again and again.
use Rattle.std.{specs.{List.range_with_len, Prelude.Option}, proofs.lemmas.Bool.cases_lt}
use Rattle.std.proofs.Common.{List, None, Some, ap, arith, inl, inr, subst, sym, true, false, zero, zero-add, suc, ℕ, ◌*◌, ◌+◌, ◌<◌, ◌∙◌, ◌≡◌, ◌≤◌, ◌⊎◌}
use Rattle.dr_entry.proofs.Ends.{at_beginning}
use Rattle.dr_machine.specs.{Group.{Group, roster}, World.opening_world}
use Rattle.dr_program.specs.{Presence.present_at, Program.{AllOk, Move, Program, has_ended}, Reading.world}
use Rattle.dr_program.specs.{Running.Running, Schedule.{IsTurn, Rounds, TakeTurns, TakesTurn, is_between_turns}}
use Rattle.dr_program.{specs.{Turn.{is_beat, part_of}, declared.setup.Setup.Setup}, proofs.Deeds.of_there}
use Rattle.dr_program.proofs.{Present.present_within, Programs.ok_parts, Search.beat_test}
use Rattle.dr_world_laws.proofs.Firsts.{of_roster}
use Rattle.dr_program_laws.proofs.Programs.{AllStand, ran_stands}
use Rattle.dr_turn_laws.proofs.{Steadying.{first_of, member_at, may_wait}, Turning.takes_turn}
use Rattle.dr_complete.proofs.{Between.{AreFresh, IsAfter, IsBetween, IsFit, IsGoing, ShowDone}, Turns.turn_keeps}

-- ---- one member

-- it takes its turn
takes : (g : Group) (setups : List (Option Setup)) (limit most r x : ℕ) (p : Program) (es : List Move)
    (q : Program) → IsFit g setups limit most → x < roster g → IsBetween g setups most r x p
    → has_ended (present_at p.members x) ≡ false → AllOk es → IsTurn x p es q → IsBetween g setups most r (x + 1) q
takes g setups limit most r x p es q fit l between going well turn =
    let member = member_at g p x between.paused.steady l in
    let y = member.0 in
    let steady = between.paused.steady in
    let stands = at_beginning y.replica.end (is_beat (part_of y.place)) (sym (ap has_ended member.1) ∙ going)
    (sym (ap is_between_turns member.1) ∙ between.paused.whole x) in
    turn_keeps {limit = limit} (record {
      fit = fit;
      within = l;
      before = between;
      turned = takes_turn g p x y es q steady between.paused.ease member.1 stands.0
          (between.paused.well x y member.1) (may_wait g p x y steady member.1 stands.0
          (between.paused.waits x y member.1)) (beat_test (part_of y.place) stands.1) well turn;
      start = y;
      began = member.1;
      alive = stands.0;
      stand = subst (AllStand setups) (sym turn.taken)
          (ran_stands g setups p es steady.group steady.program steady.reached between.paused.stand);
      whole = turn.whole;
    })

-- a member that has ended leaves the program as it is; all show done then
passes : (g : Group) (setups : List (Option Setup)) (most r x : ℕ) (p : Program) → x < roster g
    → IsBetween g setups most r x p → has_ended (present_at p.members x) ≡ true → IsBetween g setups most r (x + 1) p
passes g setups most r x p l between over =
    record { paused = between.paused; fresh = fresh; state = state between.state }
  where
    member : (y : Running) × (present_at p.members x ≡ Some y)
    member = member_at g p x between.paused.steady l

    ended : member.0.replica.end ≡ None → ⊥
    ended none = absurd (cc (sym (ap has_ended member.1) ∙ over))

    fresh : ((i : ℕ) → i < roster g → (world g p).end i ≡ None) → AreFresh g (x + 1) p
    fresh unended = absurd (ended (sym (of_there p (λ y. y.end) (opening_world g).end x member.0 member.1)
        ∙ unended x l))

    state : ShowDone g (world g p) ⊎ IsGoing g most r x (world g p)
        → ShowDone g (world g p) ⊎ IsGoing g most r (x + 1) (world g p)
    state (inl shows) = inl shows
    state (inr go) = absurd (ended (sym (of_there p (λ y. y.end) (opening_world g).end x member.0 member.1)
        ∙ go.unended x l))

-- ---- a round

-- each member from x on has its turn
turns_keep : (g : Group) (setups : List (Option Setup)) (limit most r d x : ℕ) (p : Program)
    (es : List Move) (q : Program) → IsFit g setups limit most → x + d ≡ roster g → IsBetween g setups most r x p
    → AllOk es → TakeTurns (range_with_len x d) p es q → IsBetween g setups most r (roster g) q
turns_keep g setups limit most r zero x p es q fit all between well (none, same) = subst (IsBetween g setups most r
    (roster g)) (sym same) (subst (λ n. IsBetween g setups most r n p) (omega (arith, all)) between)
turns_keep g setups limit most r (suc d) x p es q fit all between well (turn, rest, mid, both, first, more) =
    turns_keep g setups limit most r d (x + 1) mid rest q fit (omega (arith, all)) (by first) parts.1 more
  where
    l : x < roster g
    l = omega (arith, all)

    parts : AllOk turn × AllOk rest
    parts = ok_parts turn rest (subst AllOk both well)

    by : TakesTurn x p turn mid → IsBetween g setups most r (x + 1) mid
    by (inl over) = subst (IsBetween g setups most r (x + 1)) (sym over.2)
        (passes g setups most r x p l between over.0)
    by (inr going) = takes g setups limit most r x p turn mid fit l between going.0 parts.0 going.1

-- where all members have had their turn, the next round begins, or all show done
round_over : (g : Group) (setups : List (Option Setup)) (most r : ℕ) (p : Program)
    → IsBetween g setups most r (roster g) p → IsBetween g setups most (r + 1) 0 p
round_over g setups most r p between = record { paused = between.paused; fresh = fresh; state = state between.state }
  where
    fresh : ((i : ℕ) → i < roster g → (world g p).end i ≡ None) → AreFresh g 0 p
    fresh unended m i y there l d after = between.fresh unended m i y there l d (by after)
      where
        within : m < roster g
        within = omega (arith, present_within p.members m y there, between.paused.steady.program.all)

        by : IsAfter 0 m i → IsAfter (roster g) m i
        by (inl (low, inl less)) = inr (within, less, l)
        by (inl (low, inr none)) = absurd (omega (arith, none))
        by (inr (none, less, more)) = absurd (omega (arith, none))

    next : IsGoing g most r (roster g) (world g p) → (r < 3 * most + 1) ⊎ (3 * most + 1 ≤ r)
        → ShowDone g (world g p) ⊎ IsGoing g most (r + 1) 0 (world g p)
    next go (inl early) = inr (record {
      early = omega (arith, early);
      unended = go.unended;
      gone = λ i a l. absurd (omega (arith, l));
      ahead = λ i a l. go.gone i a a;
    })
    next go (inr late) = inl (λ i member.
        let a = of_roster (first_of g p between.paused.steady between.paused.ease) i member in
        (go.gone i a a).1.done (omega (arith, late)))

    state : ShowDone g (world g p) ⊎ IsGoing g most r (roster g) (world g p)
        → ShowDone g (world g p) ⊎ IsGoing g most (r + 1) 0 (world g p)
    state (inl shows) = inl shows
    state (inr go) = next go (cases_lt r (3 * most + 1))

-- ---- all rounds

-- so it goes on, round by round
pub rounds_keep : (g : Group) (setups : List (Option Setup)) (limit most k r : ℕ) (p : Program) (es : List Move)
    (q : Program) → IsFit g setups limit most → IsBetween g setups most r 0 p
    → AllOk es → Rounds k p es q → (n : ℕ) × IsBetween g setups most n 0 q
rounds_keep g setups limit most zero r p es q fit between well (none, same) =
    (r, subst (IsBetween g setups most r 0) (sym same) between)
rounds_keep g setups limit most (suc k) r p es q fit between well (round, rest, mid, both, first, more) =
    let parts = ok_parts round rest (subst AllOk both well) in
    let all = between.paused.steady.program.all in
    let over = turns_keep g setups limit most r (roster g) 0 p round mid fit (zero-add (roster g)) between
    parts.0 (subst (λ n. TakeTurns (range_with_len 0 n) p round mid) all first) in
    rounds_keep g setups limit most k (r + 1) mid rest q fit (round_over g setups most r mid over) parts.1 more
