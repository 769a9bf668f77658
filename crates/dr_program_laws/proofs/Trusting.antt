-- Members that suspect nobody, and wait for everybody or have not waited for too long, judge nothing: so
-- nobody is suspected, and no member is ended by suspicion.
use Rattle.std.specs.{List.find, Option.option_map, Prelude.{Option, None, Some, slice_index_or, unwrap_or}}
use Rattle.std.proofs.Common.{◌≡◌, ◌≢◌, refl, sym, ap, ◌∙◌, subst, inl, inr, ◌⊎◌, ℕ, ◌+◌, ◌<◌, ◌≤◌, ◌==◌, ◌&&◌, ◌||◌, not, nat_lt, Bool, true, false, if◌then◌else◌, List, [], length, map, arith}
use Rattle.std.proofs.lemmas.{Bool.{and_left, and_right, cases_eq, cases_lt, Decides.nat_tests}, Option.same_Some}
use Rattle.dr_entry.{specs.declared.{end.End.End, entry.Entry.Entry}, proofs.ListParts.nothing_of}
use Rattle.dr_entry.proofs.NumberFacts.{soon, not_in, one_of}
use Rattle.dr_entry.specs.declared.end.End.TheVariants as ends
use Rattle.dr_faithful.specs.{Chosen.views_by, Faithful.Faithful}
use Rattle.dr_machine.{specs.{Group.{Group, IsGroup}, Run.IsReached, declared.event.Act.Act}, proofs.Ends.judges}
use Rattle.dr_machine.specs.{World.{World, opening_world}, declared.step.Step.{Step, TheVariants.{Do, LogVote}}}
use Rattle.dr_program.{specs.{Acts.is_outside_act, Presence.present_at}, proofs.Search.settle_only}
use Rattle.dr_program.{specs.Form.{HasForm, IsRunningMember}, proofs.Present.{present_map, replaced_either, all_ends}}
use Rattle.dr_program.specs.{Net.{IsRanOverNet, took_nothing}, declared.place.{Place.Place, TheConstants.TURN}}
use Rattle.dr_program.specs.Program.{AreSetups, IsRanFrom, Move, Program, after_deed, begun_program, end_at, letter_for, next_sight, step_of}
use Rattle.dr_program.{specs.{Reading.{table_of, world}, Steps.{allows, stepped}}, proofs.Opening.begun_reached}
use Rattle.dr_program.specs.Replica.{Replica, is_inside, is_named, is_wedged, is_welcomer, me, value_due}
use Rattle.dr_program.specs.Running.{Running, after_step, begun_running, is_scripted, judged, judgement, minority, named_by, next_step, overdue, scripted, settled, step_at, told, took, took_letter, vote_or_end}
use Rattle.dr_program.specs.{Turn.{is_beat, part_of, after, columns_in, rows_in, IsIn}, declared.setup.Setup.Setup}
use Rattle.dr_program.{specs.declared.place.Part.Part, proofs.Deeds.{due_allowed, replicas, of_there, moved_all}}
use Rattle.dr_program.{specs.declared.setup.Suspicion.Suspicion, proofs.RunningPrograms.{limit_stays, took_limit}}
use Rattle.dr_program.proofs.{Order.take_first, Runs.after_either, StepsAt.plain_step, Voting.view_small}
use Rattle.dr_program.proofs.Parts.{is_passed, passed_act, is_judge, no_verdict, ends_view, view_stays, view_goes_on, suspects_stay, is_take}
use Rattle.dr_program.specs.declared.place.Part.TheVariants as parts
use Rattle.dr_program.specs.Replica as replica
use Rattle.dr_refine.{specs.Programs.IsProgram, proofs.{Deeds.{program_member, step_reached}, Guards.seen_is}}
use Rattle.dr_refine.proofs.Steps.{begun_is_program}
use Rattle.dr_program_laws.specs.Trusting.{AreAtEase, AreTrusting, IsAtEase, IsCalm, IsPatient, IsTrusting, MayWait, NoneLeft, SuspectsNobody, has_been_left, is_left_out, to_come, AllCalm}
use Rattle.dr_program_laws.proofs.{Letters.letters_are, Nets.net_keeps, Programs.ran_keeps}
use Rattle.dr_program_laws.proofs.Patience.{patient_on, patient_take, next_none, comes, wide_after, here_comes}
use Rattle.dr_restart.specs.{Groups.group_of, Setups.{AreSetupsOf, IsBegun, suspicion_of}, declared.start.Start.Start}
use Rattle.dr_restart.proofs.Setups.{are_setups, unsuspected}
use Rattle.dr_rows.specs.Words.{seen}
use Rattle.dr_script.specs.declared.script.Script.{Script}
use Rattle.dr_suspect.specs.Suspicion.{is_unsuspected, names, names_me, spreads}
use Rattle.dr_suspect.specs.{Waits.{is_late, is_overdue, turns_without_news}, Wishes.may_wish}
use Rattle.dr_suspect.proofs.Waiting.{nothing_found, nothing_spreads}
use Rattle.dr_words.{specs.declared.column.TheConstants.SUSPECTED_COLUMN, proofs.Masks.has_without_mask}
use Rattle.dr_world_laws.proofs.Worlds.{Known, faithful, known, quiet}
use Rattle.dr_history.{specs.Members.has, proofs.Bits.has_zero}

-- ---- words

-- nobody suspects anybody in the world of such a program
pub nobody_suspects : (g : Group) (p : Program) (m : ℕ) → AreAtEase p → (world g p).suspects m ≡ 0
nobody_suspects g p m ease = by (present_at p.members m) refl
  where
    by : (o : Option Running) → present_at p.members m ≡ o → (world g p).suspects m ≡ 0
    by None none = rw (present_map (λ (x : Running). x.replica) p.members m, none) refl
    by (Some r) there = of_there p (λ q. q.suspects) (opening_world g).suspects m r there ∙ (ease m r there).unwedged

-- and everybody is in the first view
pub stay_first : (g : Group) (p : Program) (m : ℕ) → AreAtEase p → (world g p).past.view m ≡ 0
stay_first g p m ease = by (present_at p.members m) refl
  where
    by : (o : Option Running) → present_at p.members m ≡ o → (world g p).past.view m ≡ 0
    by None none = rw (present_map (λ (x : Running). x.replica) p.members m, none) refl
    by (Some r) there = of_there p (λ q. q.view) (opening_world g).past.view m r there ∙ (ease m r there).first

-- member m of such a program, in a world that is reached
pub record IsAmong (g : Group) (p : Program) (m : ℕ) (r : Running) : Type 0 where
  pub group : IsGroup g
  pub program : IsProgram g p
  pub reached : IsReached g (world g p)
  pub ease : AreAtEase p
  pub there : present_at p.members m ≡ Some r

-- so no suspected word names anybody: neither the own one, nor any that it has seen
unsuspecting : (g : Group) (p : Program) (m : ℕ) (r : Running) → IsAmong g p m r → (i : ℕ)
    → seen r.replica.rows i SUSPECTED_COLUMN ≡ 0
unsuspecting g p m r is i = elim (cases_eq i (me r.replica)) [
  | inl same ↦ rw same ((is.program.form m r is.there).replica.suspected ∙ (is.ease m r is.there).unwedged)
  | inr apart ↦
      let other : i ≢ m = λ same. apart (same ∙ sym (is.program.of m r is.there).number) in
      sym (seen_is g (replicas p.members) (table_of p) m r.replica i SUSPECTED_COLUMN
      (program_member g p m r is.group is.program is.there) other)
      ∙ nothing ((told_truly.old.in_seen m i SUSPECTED_COLUMN other).number)
      ((told_truly.old.in_table (w.past.view m) m i SUSPECTED_COLUMN).number) own
]
  where
    w : World
    w = world g p

    y : Known g (world g p)
    y = known g w is.group is.reached

    told_truly : Faithful g (views_by g y.values) w
    told_truly = faithful g w y

    own : w.past.own i (w.past.view m) SUSPECTED_COLUMN ≡ 0
    own = ap (λ v. w.past.own i v SUSPECTED_COLUMN) (stay_first g p m is.ease ∙ sym (stay_first g p i is.ease))
        ∙ told_truly.suspicions.told i ∙ nobody_suspects g p i is.ease

    nothing : {a b c : ℕ} → a ≤ b → b ≤ c → c ≡ 0 → a ≡ 0
    nothing low high none = omega (arith, low, high, none)

-- ---- judging

-- such a member judges nothing
judges_nothing : (g : Group) (p : Program) (m : ℕ) (r : Running) → IsAmong g p m r → judgement r ≡ None
judges_nothing g p m r is = grind (arith, named, script, spread, late, few)
  where
    q : Replica
    q = r.replica

    so : IsAtEase r
    so = is.ease m r is.there

    form : HasForm r.replica
    form = (is.program.form m r is.there).replica

    unnamed : (i j : ℕ) → names q.rows i j ≡ false
    unnamed i j = ap (λ x. has x j) (unsuspecting g p m r is i) ∙ has_zero j

    named : named_by q ≡ None
    named = nothing_found (names_me (replica.suspicion_of q) q.rows) (λ i.
        and_right (is_unsuspected (replica.suspicion_of q) i) (names q.rows i (me q)) (unnamed i (me q)))

    script : scripted r ≡ None
    script = ap (λ xs. option_map (λ (s : Suspicion). s.other) (find (is_scripted q) xs)) so.unscripted

    spread : told q ≡ None
    spread = nothing_spreads (spreads (replica.suspicion_of q) (may_wish q.history q.age q.late) q.rows) (λ i j.
        and_right (is_unsuspected (replica.suspicion_of q) i) _ (and_left (names q.rows i j) _ (unnamed i j)))

    -- in a view whose members are none of the roster's, nobody is waited for
    unknown : (i : ℕ) → r.replica.roster ≤ i → has (replica.unsuspected r.replica) i ≡ false
    unknown i beyond = has_without_mask q.members q.suspects i (view_small q form)
        ∙ and_left (has q.members i) _ (not_in (has q.members i) (form.roster i) beyond)

    in_time : IsPatient r → (i : ℕ) → is_overdue r.waits r.replica.rows (replica.unsuspected r.replica) i ≡ false
    in_time (inl none) i = and_left (not (r.waits.limit == 0)) _ (ap (λ n. not (n == 0)) none)
    in_time (inr enough) i = and_right (not (r.waits.limit == 0)) _ (by (cases_lt i q.roster) (cases_eq i (me q)))
      where
        by : (i < r.replica.roster) ⊎ (r.replica.roster ≤ i) → (i ≡ me r.replica) ⊎ (i ≢ me r.replica)
            → ((has (replica.unsuspected r.replica) i && not (i == me r.replica))
            && is_late r.waits r.replica.rows i) ≡ false
        by (inr beyond) side = and_left _ _ (and_left _ _ (unknown i beyond))
        by (inl within) (inl same) =
            and_left _ _ (and_right (has (replica.unsuspected q) i) _ (grind (arith, nat_tests, same)))
        by (inl within) (inr other) = and_right (has (replica.unsuspected q) i && not (i == me q)) _
            (and_left (not (nat_lt (turns_without_news r.waits i) r.waits.limit)) _ (soon (turns_without_news r.waits i)
            (to_come (part_of r.place) r.place.row i) r.waits.limit (enough i (within, other))))

    late : overdue r ≡ None
    late = nothing_found (is_overdue r.waits q.rows (replica.unsuspected q)) (in_time so.patient)

    few : minority q ≡ None
    few = grind (arith, so.unwedged)

-- so it never stands where members judge
pub never_judges : (g : Group) (p : Program) (m : ℕ) (r : Running) → IsAmong g p m r
    → r.replica.end ≡ None → is_judge (part_of r.place) ≡ false
never_judges g p m r is unended = by (part_of r.place) refl
  where
    not_itself : allows r.replica (Do (judged r)) ≡ false
    not_itself = rw (judges_nothing g p m r is) (grind arith)

    by : (part : Part) → part_of r.place ≡ part → is_judge part ≡ false
    by parts.Judge at = absurd (cc (
      sym (ap (λ x. allows r.replica (step_at r x r.place.row r.place.column)) at)
          ∙ due_allowed r ((is.program.form m r is.there).due unended),
      not_itself,
    ))
    by part at = refl

-- ---- voting

-- such a member has no vote that waits, and has committed nothing
pub votes_nothing : (g : Group) (p : Program) (m : ℕ) (r : Running) → IsAmong g p m r
    → (r.replica.pending ≡ None) × (r.replica.committed ≡ None)
votes_nothing g p m r is =
    let none = quiet g (world g p) m is.group is.reached (nobody_suspects g p m is.ease) in (
      sym (of_there p (λ q. q.pending) (opening_world g).pending m r is.there) ∙ none.0,
      sym (of_there p (λ q. q.committed) (opening_world g).committed m r is.there) ∙ none.1,
    )

-- and came from no view before
came_from_none : (g : Group) (p : Program) (m : ℕ) (r : Running) → IsAmong g p m r
    → has r.replica.came_from (me r.replica) ≡ false
came_from_none g p m r is = by (has r.replica.came_from (me r.replica)) refl
  where
    y : Known g (world g p)
    y = known g (world g p) is.group is.reached

    there : (world g p).came_from m ≡ r.replica.came_from
    there = of_there p (λ q. q.came_from) (opening_world g).came_from m r is.there

    none : has r.replica.came_from (me r.replica) ≡ true → ⊥
    none came =
        let before = (faithful g (world g p) y).views.came m (ap (λ k. has k m) there
        ∙ ap (has r.replica.came_from) (sym (is.program.of m r is.there).number) ∙ came) in
        omega (arith, before.1, stay_first g p m is.ease)

    by : (b : Bool) → has r.replica.came_from (me r.replica) ≡ b → has r.replica.came_from (me r.replica) ≡ false
    by true came = absurd (none came)
    by false other = other

-- so in its view, until an append of it fails, it stands at no part that it passes
pub never_passed : (g : Group) (p : Program) (m : ℕ) (r : Running) → IsAmong g p m r
    → is_inside r.replica ≡ true → r.replica.end ≡ None → r.failed ≡ None → is_passed (part_of r.place) ≡ false
never_passed g p m r is inside unended well = by (part_of r.place) refl
  where
    none : (r.replica.pending ≡ None) × (r.replica.committed ≡ None)
    none = votes_nothing g p m r is

    calm : is_wedged r.replica ≡ false
    calm = ap (λ n. not (n == 0)) (is.ease m r is.there).unwedged

    no_vote : allows r.replica (LogVote (value_due r.replica)) ≡ false
    no_vote = and_right (is_inside r.replica) _ (and_left (is_wedged r.replica) _ calm)

    no_giver : allows r.replica (step_at r parts.Give r.place.row r.place.column) ≡ false
    no_giver = and_right (is_inside r.replica) _ (and_right (nat_lt r.place.row r.replica.roster) _
        (and_left (is_welcomer r.replica) _ (and_left (has r.replica.came_from (me r.replica)) _
        (came_from_none g p m r is))))

    unnamed : allows r.replica (step_at r parts.Excluded r.place.row r.place.column) ≡ false
    unnamed = and_right (is_inside r.replica) _ (and_left (is_named (me r.replica) r.replica.committed) _
        (ap (is_named (me r.replica)) none.1))

    never : (part : Part) → part_of r.place ≡ part
        → allows r.replica (step_at r part r.place.row r.place.column) ≡ false → is_passed part ≡ false
    never part at fails = absurd (cc (
      sym (ap (λ x. allows r.replica (step_at r x r.place.row r.place.column)) at)
          ∙ due_allowed r ((is.program.form m r is.there).due unended),
      fails,
    ))

    act : (a : Act) → part_of r.place ≡ parts.Do a → (b : Bool) → is_passed (parts.Do a) ≡ b
        → is_passed (parts.Do a) ≡ false
    act a at true passed = never (parts.Do a) at (and_right (is_outside_act a || is_inside r.replica) _
        (passed_act r.replica a (is.ease m r is.there).unwedged none.0 none.1 passed))
    act a at false other = other

    by : (part : Part) → part_of r.place ≡ part → is_passed part ≡ false
    by parts.Take at = never parts.Take at (ap not inside)
    by parts.Give at = never parts.Give at no_giver
    by parts.Judge at = absurd (cc (ap is_judge at, never_judges g p m r is unended))
    by parts.Vote at = never parts.Vote at
        (ap (λ o. allows r.replica (vote_or_end o (value_due r.replica))) well ∙ no_vote)
    by parts.Excluded at = never parts.Excluded at unnamed
    by (parts.Do a) at = act a at (is_passed (parts.Do a)) refl
    by part at = refl

-- ---- other steps

-- so such a member stays in its view
pub never_ends : (g : Group) (p : Program) (m : ℕ) (r : Running) → IsAmong g p m r → r.replica.end ≡ None
    → ends_view (next_step r) ≡ false
never_ends g p m r is unended = view_goes_on r.replica (next_step r) (votes_nothing g p m r is).1
    (due_allowed r ((is.program.form m r is.there).due unended))

-- or ends it by suspicion
end_stays : (word : ℕ) (r : Replica) (s : Step) → r.committed ≡ None → judges s ≡ false
    → allows r s ≡ true → has_been_left r.end ≡ false → has_been_left (stepped word r s).end ≡ false
end_stays word r s none other may kept = grind (arith, none, other, may, kept)

-- ---- a move

-- a member that takes such a step stays as it is, where it may wait as its turn begins
step_eases : (word : ℕ) (r : Running) → IsRunningMember r → r.replica.committed ≡ None
    → judges (next_step r) ≡ false → allows r.replica (next_step r) ≡ true
    → (is_beat (part_of r.place) ≡ true → MayWait r) → IsAtEase r → IsAtEase (after_step word r)
step_eases word r member none other may waits so =
    let stays = view_goes_on r.replica (next_step r) none may in
    let only = settle_only _ (took word r (next_step r)) in record {
      first = ap (λ (x : Running). x.replica.view) only ∙ view_stays word r.replica (next_step r) stays ∙ so.first;
      unwedged = ap (λ (x : Running). x.replica.suspects) only
          ∙ suspects_stay word r.replica (next_step r) other stays ∙ so.unwedged;
      patient = patient_on word r member stays waits (limit_stays word r (next_step r)) so.patient;
      unscripted = ap (λ (x : Running). x.suspicions) only ∙ so.unscripted;
      kept = ap (λ (x : Running). has_been_left x.replica.end) only
          ∙ end_stays word r.replica (next_step r) none other may so.kept;
    }

-- as nobody has come to a later view, no letter was given
no_letter : (g : Group) (p : Program) (m : ℕ) → IsGroup g → IsReached g (world g p) → AreAtEase p
    → letter_for p m ≡ None
no_letter g p m group run ease = by (letter_for p m) refl
  where
    y : Known g (world g p)
    y = known g (world g p) group run

    by : (letter : Option (List Entry)) → letter_for p m ≡ letter → letter_for p m ≡ None
    by None none = none
    by (Some letter) found =
        let t = (y.chosen.letters.letters m letter found).0 in
        absurd (omega (arith, t.next, t.come, stay_first g p t.giver ease))

-- so a take finds none
take_eases : (r : Running) → IsAtEase r → IsAtEase (settled (took_letter None r))
take_eases r so = let only = settle_only _ (took_letter None r) in record {
  first = ap (λ (x : Running). x.replica.view) only ∙ so.first;
  unwedged = ap (λ (x : Running). x.replica.suspects) only ∙ so.unwedged;
  patient = patient_take r so.patient;
  unscripted = ap (λ (x : Running). x.suspicions) only ∙ so.unscripted;
  kept = ap (λ (x : Running). has_been_left x.replica.end) only ∙ so.kept;
}

-- the member after its next deed
deed_eases : (g : Group) (p : Program) (e : Move) (r : Running) → IsAmong g p e.member r
    → r.replica.end ≡ None → (is_beat (part_of r.place) ≡ true → MayWait r)
    → IsAtEase (after_deed (next_sight p.table r) (letter_for p e.member) e.outcome r (next_step r))
deed_eases g p e r is unended waits =
    let form = is.program.form e.member r is.there in
    let so = is.ease e.member r is.there in
    after_either IsAtEase p.table (letter_for p e.member) e.outcome r (next_step r)
    (step_eases (next_sight p.table r) r form (votes_nothing g p e.member r is).1
    (plain_step r (part_of r.place) r.place.row r.place.column (never_judges g p e.member r is unended)
    (no_verdict r.place.part form.place.part)) (due_allowed r (form.due unended)) waits so) (λ why due. record {
      first = so.first;
      unwedged = so.unwedged;
      patient = so.patient;
      unscripted = so.unscripted;
      kept = so.kept;
    })
    (λ due. subst (λ letter. IsAtEase (settled (took_letter letter r)))
    (sym (no_letter g p e.member is.group is.reached is.ease)) (take_eases r so))

-- a move keeps the members of the program so, where a member that begins its turn by it may wait
pub move_eases : (g : Group) (p : Program) (e : Move) → IsGroup g → IsProgram g p
    → IsReached g (world g p) → AreAtEase p
    → ((r : Running) → present_at p.members e.member ≡ Some r → is_beat (part_of r.place) ≡ true → MayWait r)
    → AreAtEase (step_of p e)
move_eases g p e group is run ease waits = moved_all IsAtEase p e ease (λ r there unended.
    deed_eases g p e r (record {
      group = group;
      program = is;
      reached = run;
      ease = ease;
      there = there;
    }) unended (waits r there))

-- ---- members without a limit

-- who trusts is at ease, and may wait
pub at_ease : (p : Program) → AreTrusting p → AreAtEase p
at_ease p trusting m r there = let so = trusting m r there in record {
  first = so.first;
  unwedged = so.unwedged;
  patient = inl so.patient;
  unscripted = so.unscripted;
  kept = so.kept;
}

-- a move keeps the members of the program trusting
pub move_trusts : (g : Group) (p : Program) (e : Move) → IsGroup g → IsProgram g p
    → IsReached g (world g p) → AreTrusting p → AreTrusting (step_of p e)
move_trusts g p e group is run trusting k y here =
    let so = move_eases g p e group is run (at_ease p trusting)
    (λ r there beat. inl (trusting e.member r there).patient) k y here in record {
      first = so.first;
      unwedged = so.unwedged;
      patient = moved_all (λ r. r.waits.limit ≡ 0) p e (λ i r there. (trusting i r there).patient)
          (λ r there unended. after_either (λ x. x.waits.limit ≡ 0) p.table (letter_for p e.member) e.outcome r
          (next_step r)
          (ap (λ (x : Running). x.waits.limit) (settle_only _ (took (next_sight p.table r) r (next_step r)))
          ∙ limit_stays (next_sight p.table r) r (next_step r) ∙ (trusting e.member r there).patient)
          (λ why due. (trusting e.member r there).patient)
          (λ due. ap (λ (x : Running). x.waits.limit) (settle_only _ (took_letter (letter_for p e.member) r))
          ∙ (took_limit (letter_for p e.member) r ∙ (trusting e.member r there).patient))) k y here;
      unscripted = so.unscripted;
      kept = so.kept;
    }

-- ---- every run

-- members begin so, where their setups are calm
pub trusting_begins : (g : Group) (turns : ℕ) (setups : List (Option Setup)) → IsGroup g → AreSetups g turns setups
    → AllCalm setups → AreTrusting (begun_program g setups)
trusting_begins g turns setups group are calm m r there =
    by (present_at setups m) refl (sym (present_map begun_running setups m) ∙ there)
  where
    begun : (s : Setup) → IsCalm s → IsTrusting (begun_running s)
    begun s so =
        record { first = refl; unwedged = refl; patient = so.patient; unscripted = so.unscripted; kept = refl }

    by : (o : Option Setup) → present_at setups m ≡ o → option_map begun_running o ≡ Some r → IsTrusting r
    by None e same = absurd (cc)
    by (Some s) e same = subst IsTrusting (same_Some (begun_running s) r same) (begun s (calm m s e))

-- and stay so by any moves
pub trusting_ran : (g : Group) (turns : ℕ) (setups : List (Option Setup)) (p : Program) → IsGroup g → 1 ≤ turns
    → AreSetups g turns setups → AllCalm setups → IsRanFrom (begun_program g setups) p → AreTrusting p
trusting_ran g turns setups p group some are calm (es, same) = subst AreTrusting (sym same)
    (ran_keeps g (λ q. IsReached g (world g q) × AreTrusting q) (begun_program g setups) es group
    (begun_is_program g turns setups group some are) (begun_reached g turns setups group are) (λ q e is so. (
      step_reached g q e group is (letters_are g q group is so.0) so.0,
      move_trusts g q e group is so.0 so.1,
    )) (begun_reached g turns setups group are, trusting_begins g turns setups group are calm)).1

-- a take that finds no letter leaves them so
missed_trusts : (p : Program) (m : ℕ) (r : Running) → AreTrusting p → present_at p.members m ≡ Some r
    → AreTrusting (took_nothing p m r)
missed_trusts p m r trusting there k y found =
    elim (replaced_either p.members m r (settled (took_letter None r)) there k y found) [
      | inl here ↦ subst IsTrusting here.1 now
      | inr other ↦ trusting k y other.1
    ]
  where
    only : settled (took_letter None r) ≡ record (took_letter None r) {
      place = (settled (took_letter None r)).place;
    }
    only = settle_only _ (took_letter None r)

    so : IsTrusting r
    so = trusting m r there

    now : IsTrusting (settled (took_letter None r))
    now = record {
      first = ap (λ (x : Running). x.replica.view) only ∙ so.first;
      unwedged = ap (λ (x : Running). x.replica.suspects) only ∙ so.unwedged;
      patient = ap (λ (x : Running). x.waits.limit) only ∙ so.patient;
      unscripted = ap (λ (x : Running). x.suspicions) only ∙ so.unscripted;
      kept = ap (λ (x : Running). has_been_left x.replica.end) only ∙ so.kept;
    }

-- over a net too, however late the words of others come
pub net_trusts : (g : Group) (turns : ℕ) (setups : List (Option Setup)) (p : Program) → IsGroup g → 1 ≤ turns
    → AreSetups g turns setups → AllCalm setups → IsRanOverNet g (begun_program g setups) p → AreTrusting p
net_trusts g turns setups p group some are calm (before, way) = net_keeps g turns setups AreTrusting group some are
    (λ q e form run trusting. move_trusts g q e group form run trusting) (λ q table letters trusting. trusting)
    (λ q m r form trusting there asks. missed_trusts q m r trusting there)
    (trusting_begins g turns setups group are calm) before p way

-- so none of them ends by suspicion
none_left : (p : Program) → AreTrusting p → NoneLeft (map end_at p.members)
none_left p trusting = all_ends (λ e. is_left_out e.end ≡ false) p refl
    (λ m r there. by r.replica.end (trusting m r there).kept)
  where
    by : (o : Option End) → has_been_left o ≡ false → is_left_out (unwrap_or o ends.Done) ≡ false
    by None kept = refl
    by (Some end) kept = kept

pub none_is_left : (g : Group) (turns : ℕ) (setups : List (Option Setup)) (p : Program) → IsGroup g → 1 ≤ turns
    → AreSetups g turns setups → AllCalm setups → IsRanFrom (begun_program g setups) p
    → NoneLeft (map end_at p.members)
none_is_left g turns setups p group some are calm run =
    none_left p (trusting_ran g turns setups p group some are calm run)

-- ---- scripts

-- the setups of a script that suspects nobody are calm
pub calm_setups : (script : Script) (start : Start) (nth : ℕ) (setups : List (Option Setup)) → SuspectsNobody script
    → AreSetupsOf script start nth setups → AllCalm setups
calm_setups script start nth setups nobody are m s there =
    let of = are.each m s there in record {
      patient = of.patience ∙ nobody.patient;
      unscripted = of.suspicions ∙ nothing_of (suspicion_of nth m) script.faults
          (λ i f l. unsuspected nth m (slice_index_or script.faults i f) (nobody.unscripted i f l));
    }

pub none_by_script : (script : Script) (start : Start) (nth : ℕ) (begun p : Program)
    → IsGroup (group_of script start) → length script.messages ≡ script.members → 1 ≤ script.turns
    → SuspectsNobody script → IsBegun script start nth begun → IsRanFrom begun p → NoneLeft (map end_at p.members)
none_by_script script start nth begun p is lists some nobody (setups, are, same) run =
    none_is_left (group_of script start) script.turns setups p is some
    (are_setups script start nth setups lists are) (calm_setups script start nth setups nobody are)
    (subst (λ b. IsRanFrom b p) same run)

abbrev come_after : ℕ → ℕ → ℕ → ℕ
come_after row n i = one_of (nat_lt (row + 1) n) (to_come parts.Look (row + 1) i)

pub last_after : (n k : ℕ) (p : Place) (i : ℕ) → part_of p ≡ parts.Look → (p.column + 1 == k) ≡ true
    → comes (after n k p) i ≡ come_after p.row n i
last_after n k p i at e = by (nat_lt (p.column + 1) (columns_in k (part_of p))) (nat_lt (p.row + 1)
    (rows_in n (part_of p))) (ap (λ part. nat_lt (p.column + 1) (columns_in k part)) at ∙ grind (arith, nat_tests, e))
    (ap (λ part. nat_lt (p.row + 1) (rows_in n part)) at)
  where
    by : (x y : Bool) → x ≡ false → y ≡ nat_lt (p.row + 1) n
        → comes (if x then record p { column = p.column + 1 } else (if y then record p { row = p.row + 1; column = 0 }
        else record { part = if nat_lt (p.part + 1) (length TURN) then p.part + 1 else 0; row = 0; column = 0 })) i
        ≡ come_after p.row n i
    by true y f r = absurd (cc f)
    by false true f r = ap (λ part. to_come part (p.row + 1) i) at
        ∙ ap (λ b. one_of b (to_come parts.Look (p.row + 1) i)) r
    by false false f r = next_none p i at ∙ ap (λ b. one_of b (to_come parts.Look (p.row + 1) i)) r

pub row_come : (row n i : ℕ) → i ≡ row → come_after row n i ≡ 0
row_come row n i same = grind (arith, same)

rows_stay : (row n i : ℕ) → i ≢ row → i < n → come_after row n i ≡ to_come parts.Look row i
rows_stay row n i other within = by (cases_lt i row)
  where
    by : (i < row) ⊎ (row ≤ i) → come_after row n i ≡ to_come parts.Look row i
    by (inl l) = grind (arith, l)
    by (inr l) = grind (arith, l, other, within)

-- so the place after a look leaves the other rows as they are
pub rows_after : (n k : ℕ) (p : Place) (i : ℕ) → part_of p ≡ parts.Look → p.column < k → i ≢ p.row → i < n
    → comes (after n k p) i ≡ comes p i
rows_after n k p i at low other within = by (p.column + 1 == k) refl
  where
    by : (b : Bool) → (p.column + 1 == k) ≡ b → comes (after n k p) i ≡ comes p i
    by true e = last_after n k p i at e ∙ rows_stay p.row n i other within ∙ sym (here_comes p i at)
    by false e = wide_after n k p i at low e

-- and all rows are to come from the first place of a turn on, and from the first look
pub at_first : (i : ℕ) → to_come parts.Look 0 i ≡ 1
at_first i = grind arith

pub take_after : (n k : ℕ) (p : Place) (i : ℕ) → IsIn n k p → part_of p ≡ parts.Take → comes (after n k p) i ≡ comes p i
take_after n k p i is at = ap (λ q. comes (after n k q) i) first ∙ at_first i
    ∙ sym (ap (λ part. to_come part p.row i) at)
  where
    zero : (x : ℕ) → x < 1 → x ≡ 0
    zero x l = omega (arith, l)

    first : p ≡ record { part = 0; row = 0; column = 0 }
    first = λ z. record {
      part = take_first p.part is.part (ap is_take at) z;
      row = zero p.row (subst (λ part. p.row < rows_in n part) at is.row) z;
      column = zero p.column (subst (λ part. p.column < columns_in k part) at is.column) z;
    }
