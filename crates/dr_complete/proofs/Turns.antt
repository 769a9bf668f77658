-- A turn of a member, in a round in which the members below it have had theirs.
use Rattle.std.{specs.Prelude.Option, proofs.lemmas.Bool.{cases_eq, cases_lt}}
use Rattle.std.proofs.Common.{List, None, Some, ap, arith, inl, inr, subst, sym, true, ℕ, ◌+◌, ◌<◌, ◌∙◌, ◌≡◌, ◌≢◌, ◌≤◌, ◌⊎◌}
use Rattle.dr_entry.specs.declared.end.End.TheVariants as ends
use Rattle.dr_entry.proofs.Ends.{IsUpright, IsUprightOrSpent, uncrashed}
use Rattle.dr_words.specs.declared.column.TheConstants.{BEAT_COLUMN, DONE_COLUMN, LOGGED_COLUMN}
use Rattle.dr_machine.specs.{Group.{Group, columns, roster}, World.{World, opening_world, shown}}
use Rattle.dr_machine.proofs.{Groups.ArePushed, Presence.is_present, Worlds.{shown_mine, shown_other}}
use Rattle.dr_program.specs.{Presence.present_at, Program.Program, Reading.world, Running.Running}
use Rattle.dr_program.specs.{Schedule.is_between_turns, declared.setup.Setup.Setup}
use Rattle.dr_program.proofs.{Deeds.{of_there, same_held}, Holdings.{Holding, held, IsAlong, along_less}}
use Rattle.dr_program.proofs.{Present.present_within, RunningPrograms.HasWaited}
use Rattle.dr_faithful.{specs.Chosen.views_by, proofs.Shown.done_is_one}
use Rattle.dr_program_laws.{specs.Failing.has_log_end, proofs.{Programs.AllStand, Standing.proper_end}}
use Rattle.dr_turn_laws.{specs.Rested.{HasCompared, HasTurned, IsRested}, proofs.Steadying.{first_of, member_at}}
use Rattle.dr_suspect.{specs.Waits.{beat_of, turns_without_news}, proofs.Waiting.newly}
use Rattle.dr_world_laws.proofs.Firsts.{in_view_is, IsFirst, members_are, of_members, own_first, told}
use Rattle.dr_complete.{specs.Reached.AllShowDone, proofs.{Along.along_more, DoneWords.done_shows_all}}
use Rattle.dr_complete.proofs.Between.{AreFresh, HasGone, IsAfter, IsBetween, IsFit, IsGoing, ShowDone}

-- member x has taken its turn, by which p has become q
pub record HasTaken (g : Group) (setups : List (Option Setup)) (limit most r x : ℕ) (p q : Program) : Type 0 where
  pub fit : IsFit g setups limit most
  pub within : x < roster g
  pub before : IsBetween g setups most r x p
  pub turned : HasTurned g p x q
  pub start : Running
  pub began : present_at p.members x ≡ Some start
  pub alive : start.replica.end ≡ None
  pub stand : AllStand setups q
  pub whole : is_between_turns (present_at q.members x) ≡ true

-- ---- the others

-- the others are as they were
others_same : {g : Group} {setups : List (Option Setup)} {limit most r x : ℕ} {p q : Program}
    → HasTaken g setups limit most r x p q → (i : ℕ) → i ≢ x → held (world g q) i ≡ held (world g p) i
others_same {g = g} {p = p} {q = q} t i other = same_held g p q i (t.turned.others i other)

-- ---- how the member has ended

-- so it is with the member that has taken its turn
end_so : {g : Group} {setups : List (Option Setup)} {limit most r x : ℕ} {p q : Program}
    → HasTaken g setups limit most r x p q → IsUprightOrSpent limit ((world g q).turns x) ((world g q).end x)
end_so {g = g} {setups = setups} {limit = limit} {x = x} {q = q} t =
    let member = member_at g q x t.turned.steady t.within in
    let setup = t.fit.are.there x t.within (is_present g x t.turned.steady.whole t.within) in
    let end = of_there q (λ z. z.end) (opening_world g).end x member.0 member.1 in
    let turns = of_there q (λ z. z.turns) (opening_world g).turns x member.0 member.1 in
    let bound = (t.fit.are.each x setup.0 setup.1).turns in
    rw (end, turns) (proper_end limit member.0.replica.turns member.0.replica.end
    (rw (bound, t.fit.uncrashed x setup.0 setup.1) at (t.stand x setup.0 member.0 setup.1 member.1).proper)
    (sym (ap has_log_end end) ∙ t.turned.logs) (t.turned.ease x member.0 member.1).kept)

-- so it has nothing left to do
has_rested : {g : Group} {setups : List (Option Setup)} {limit most r x : ℕ} {p q : Program}
    → HasTaken g setups limit most r x p q → IsRested g (world g q) x
has_rested {g = g} {limit = limit} {x = x} {q = q} t = by t.turned.rested
  where
    by : ((world g q).end x ≡ Some ends.Crashed) ⊎ IsRested g (world g q) x → IsRested g (world g q) x
    by (inr rested) = rested
    by (inl crashed) = absurd (uncrashed limit ((world g q).turns x) ((world g q).end x) (end_so t) crashed)

-- ---- what was pushed

-- everybody is in the first view before the turn, and behind it
first_before : {g : Group} {setups : List (Option Setup)} {limit most r x : ℕ} {p q : Program}
    → HasTaken g setups limit most r x p q → IsFirst g (world g p)
first_before {g = g} {p = p} t = first_of g p t.before.paused.steady t.before.paused.ease

first_behind : {g : Group} {setups : List (Option Setup)} {limit most r x : ℕ} {p q : Program}
    → HasTaken g setups limit most r x p q → IsFirst g (world g q)
first_behind {g = g} {q = q} t = first_of g q t.turned.steady t.turned.ease

-- the words of the others in the table are as they were
others_stay : {g : Group} {setups : List (Option Setup)} {limit most r x : ℕ} {p q : Program}
    → HasTaken g setups limit most r x p q → (i j c : ℕ) → i ≢ x → i < roster g → j < roster g → j ≢ i
    → c < columns g → (world g q).table 0 j i c ≡ (world g p).table 0 j i c
others_stay {g = g} {p = p} {q = q} t i j c d a b other inside =
    let member = member_at g p i t.before.paused.steady a in
    subst (λ v. (world g q).table v j i c ≡ (world g p).table v j i c)
    (t.before.paused.ease i member.0 member.1).first
    (sym (t.turned.steady.pushes i member.0 (t.turned.others i d ∙ member.1) j c b other inside)
    ∙ t.before.paused.steady.pushes i member.0 member.1 j c b other inside)

-- so all words are pushed as before, and those of the member as it leaves them
still_pushed : {g : Group} {setups : List (Option Setup)} {limit most r x : ℕ} {p q : Program}
    → HasTaken g setups limit most r x p q → ArePushed g (world g q)
still_pushed {g = g} {x = x} {q = q} t i j c a b other inside apart begun = by (cases_eq i x)
  where
    w : World
    w = world g q

    by : (i ≡ x) ⊎ (i ≢ x) → (world g q).table 0 j i c ≡ (world g q).past.own i 0 c
    by (inl e) = rw e (subst (λ (v : ℕ). w.table v j x c ≡ w.past.own x v c) ((first_behind t).view x)
        ((has_rested t).pushed j c b (λ z. other (z ∙ sym e)) inside (λ z. absurd (apart z))))
    by (inr d) =
        let same = others_same t i d in
        others_stay t i j c d a b other inside ∙ t.before.paused.pushed i j c a b other inside apart
        (λ z. subst (λ (n : ℕ). 1 ≤ n) (ap (λ (h : Holding). h.turns) same) (begun z))
        ∙ ap (λ (h : Holding). h.own 0 c) (sym same)

-- and the member sees them so
sees_own : {g : Group} {setups : List (Option Setup)} {limit most r x : ℕ} {p q : Program}
    → HasTaken g setups limit most r x p q → (i c : ℕ) → i < roster g → i ≢ x → c < columns g → c ≢ BEAT_COLUMN
    → (c ≡ LOGGED_COLUMN → 1 ≤ (world g q).turns i) → (world g q).seen x i c ≡ (world g q).past.own i 0 c
sees_own {g = g} {x = x} {q = q} t i c a other inside apart begun = (has_rested t).seen i c a other inside
    ∙ ap (λ v. (world g q).table v x i c) ((first_behind t).view x)
    ∙ still_pushed t i x c a t.within (λ e. other (sym e)) inside apart begun

-- ---- where all show done

-- they go on to do so
still_show : {g : Group} {setups : List (Option Setup)} {limit most r x : ℕ} {p q : Program}
    → HasTaken g setups limit most r x p q → ShowDone g (world g p) → ShowDone g (world g q)
still_show {g = g} {x = x} {p = p} {q = q} t shows i a = by (cases_eq i x)
  where
    y : IsFirst g (world g q)
    y = first_behind t

    by : (i ≡ x) ⊎ (i ≢ x) → (world g q).past.own i 0 DONE_COLUMN ≡ 1
    by (inl e) = rw e (done_is_one g (views_by g y.known.values) (world g q) x 0 (told y) (omega (
      arith,
      t.turned.rises 0 DONE_COLUMN,
      shows x (of_members (first_before t) x t.within),
    )))
    by (inr d) = ap (λ (h : Holding). h.own 0 DONE_COLUMN) (others_same t i d) ∙ shows i a

-- and the member, which sees them all, has ended as done
ends_done : {g : Group} {setups : List (Option Setup)} {limit most r x : ℕ} {p q : Program}
    → HasTaken g setups limit most r x p q → ShowDone g (world g q) → (world g q).end x ≡ Some ends.Done
ends_done {g = g} {x = x} {q = q} t shows = (has_rested t).done.1
    (λ i member. by i (cases_eq i x) (in_view_is y x i member))
  where
    y : IsFirst g (world g q)
    y = first_behind t

    by : (i : ℕ) → (i ≡ x) ⊎ (i ≢ x) → i < roster g → shown (world g q) x i DONE_COLUMN ≡ 1
    by i (inl e) a = shown_mine (world g q) x i DONE_COLUMN 1 e
        (own_first y x DONE_COLUMN ∙ shows x (of_members y x t.within))
    by i (inr d) a = shown_other (world g q) x i DONE_COLUMN 1 d (sees_own t i DONE_COLUMN a d
        (omega arith) (λ e. omega (arith, e)) (λ e. absurd (omega (arith, e))) ∙ shows i (of_members y i a))

-- ---- where nobody has ended

-- before the turn each other member has had r turns, or one more
went : {g : Group} {setups : List (Option Setup)} {limit most r x : ℕ} {p q : Program}
    → HasTaken g setups limit most r x p q → IsGoing g most r x (world g p) → (i : ℕ) → i < roster g
    → i ≢ x → (r ≤ (world g q).turns i) × IsAlong g most r i (held (world g q) i)
went {g = g} {most = most} {r = r} {x = x} {p = p} t go i a other =
    subst (λ (h : Holding). (r ≤ h.turns) × IsAlong g most r i h) (sym (others_same t i other)) (by (cases_lt i x))
  where
    by : (i < x) ⊎ (x ≤ i) → (r ≤ (world g p).turns i) × IsAlong g most r i (held (world g p) i)
    by (inl l) = let gone = go.gone i a l in
        (omega (arith, gone.0), along_less g most r i (held (world g p) i) gone.1)
    by (inr l) = let ahead = go.ahead i a l in (omega (arith, ahead.0), ahead.1)

-- so the turn brings the member on
comes_on : {g : Group} {setups : List (Option Setup)} {limit most r x : ℕ} {p q : Program}
    → HasTaken g setups limit most r x p q → IsGoing g most r x (world g p)
    → HasGone g most (r + 1) x (held (world g q) x)
comes_on {g = g} {most = most} {r = r} {x = x} {q = q} t go = (
  turns,
  along_more (record {
    known = first_behind t;
    member = t.within;
    few = t.fit.few;
    rested = has_rested t;
    sees = λ i c a other inside apart begun. sees_own t i c a other inside apart
        (λ e. omega (arith, begun e, (went t go i a other).0));
    others = λ i a other. (went t go i a other).1;
  }),
)
  where
    turns : (world g q).turns x ≡ r + 1
    turns = t.turned.turns ∙ ap (λ n. n + 1) (go.ahead x t.within (omega arith)).0

-- the member goes on, or has ended as done
stays_upright : {g : Group} {setups : List (Option Setup)} {limit most r x : ℕ} {p q : Program}
    → HasTaken g setups limit most r x p q → IsUpright ((world g q).end x)
stays_upright {g = g} {limit = limit} {most = most} {r = r} {x = x} {p = p} {q = q} t = by t.before.state (end_so t)
  where
    by : ShowDone g (world g p) ⊎ IsGoing g most r x (world g p)
        → IsUprightOrSpent limit ((world g q).turns x) ((world g q).end x) → IsUpright ((world g q).end x)
    by state (inl upright) = upright
    by (inl shows) how = inr (ends_done t (still_show t shows))
    by (inr go) (inr spent) = absurd (omega (arith, spent.0, (comes_on t go).0, go.early, t.fit.enough))

-- where it goes on, so do all
goes_on : {g : Group} {setups : List (Option Setup)} {limit most r x : ℕ} {p q : Program}
    → HasTaken g setups limit most r x p q → IsGoing g most r x (world g p)
    → (world g q).end x ≡ None → IsGoing g most r (x + 1) (world g q)
goes_on {g = g} {most = most} {r = r} {x = x} {p = p} {q = q} t go none = record {
  early = go.early;
  unended = λ i a. unended i a (cases_eq i x);
  gone = λ i a l. gone i a l (cases_eq i x);
  ahead = λ i a l. subst (HasGone g most r i) (sym (same i (λ e. omega (arith, e, l))))
      (go.ahead i a (omega (arith, l)));
}
  where
    same : (i : ℕ) → i ≢ x → held (world g q) i ≡ held (world g p) i
    same = others_same t

    unended : (i : ℕ) → i < roster g → (i ≡ x) ⊎ (i ≢ x) → (world g q).end i ≡ None
    unended i a (inl e) = rw e none
    unended i a (inr d) = ap (λ (h : Holding). h.end) (same i d) ∙ go.unended i a

    gone : (i : ℕ) → i < roster g → i < x + 1 → (i ≡ x) ⊎ (i ≢ x) → HasGone g most (r + 1) i (held (world g q) i)
    gone i a l (inl e) = rw e (comes_on t go)
    gone i a l (inr d) = subst (HasGone g most (r + 1) i) (sym (same i d)) (go.gone i a (omega (arith, l, d)))

-- ---- waiting

-- the members that haven't had the turn are as they were
member_same : {g : Group} {setups : List (Option Setup)} {limit most r x : ℕ} {p q : Program}
    → HasTaken g setups limit most r x p q → (m : ℕ) (y : Running) → m ≢ x → present_at q.members m ≡ Some y
    → present_at p.members m ≡ Some y
member_same t m y other there = sym (t.turned.others m other) ∙ there

-- between turns members have waited so
still_waits : {g : Group} {setups : List (Option Setup)} {limit most r x : ℕ} {p q : Program}
    → HasTaken g setups limit most r x p q → (m : ℕ) (y : Running) → present_at q.members m ≡ Some y
    → HasWaited g (world g q) m y
still_waits {g = g} {limit = limit} {most = most} {r = r} {x = x} {p = p} {q = q} t m y there = by (cases_eq m x)
  where
    before : HasWaited g (world g p) x t.start
    before = t.before.paused.waits x t.start t.began

    fresh_there : (i : ℕ) → i < roster g → i ≢ x → IsGoing g most r x (world g p)
        → (turns_without_news t.start.waits i ≡ 0)
        ⊎ ((world g p).seen x i BEAT_COLUMN < (world g p).table 0 x i BEAT_COLUMN)
    fresh_there i l d go = t.before.fresh go.unended x i t.start t.began l d (inl (omega arith, sides (cases_lt i x)))
      where
        sides : (i < x) ⊎ (x ≤ i) → (x < i) ⊎ (i < x)
        sides (inl less) = inr less
        sides (inr more) = inl (omega (arith, more, d))

    -- what it sees is what stood in the table before
    sees : (i : ℕ) → i < roster g → i ≢ x → (world g q).seen x i BEAT_COLUMN ≡ (world g p).table 0 x i BEAT_COLUMN
    sees i l d = (has_rested t).seen i BEAT_COLUMN l d (omega arith) ∙ ap (λ v. (world g q).table v x i BEAT_COLUMN)
        ((first_behind t).view x) ∙ others_stay t i x BEAT_COLUMN d l t.within (λ e. d (sym e)) (omega arith)

    own : (v : Running) → present_at q.members x ≡ Some v → HasWaited g (world g q) x v
    own v here = record {
      limit = subst (λ n. (n ≡ 0) ⊎ (3 ≤ n)) (sym (t.turned.limit t.start v t.began here)) before.limit;
      beat = λ i l d. (compared i l d).beat;
      few = λ i l d none. by_state i l d none t.before.state;
    }
      where
        end : (world g q).end x ≡ v.replica.end
        end = of_there q (λ z. z.end) (opening_world g).end x v here

        compared : (i : ℕ) → i < roster g → i ≢ x
            → HasCompared t.start.waits v.waits i ((world g q).seen x i BEAT_COLUMN)
        compared i l d = t.turned.compared
            (uncrashed limit ((world g q).turns x) ((world g q).end x) (end_so t)) t.start v t.began here i l d

        by_state : (i : ℕ) → i < roster g → i ≢ x → v.replica.end ≡ None
            → ShowDone g (world g p) ⊎ IsGoing g most r x (world g p) → turns_without_news v.waits i ≤ 1
        by_state i l d none (inl shows) = absurd (cc (end, none, ends_done t (still_show t shows)))
        by_state i l d none (inr go) = omega (
          arith,
          (compared i l d).count,
          newly (turns_without_news t.start.waits i) (beat_of t.start.waits i) ((world g q).seen x i BEAT_COLUMN)
              (news (fresh_there i l d go)),
        )
          where
            news : (turns_without_news t.start.waits i ≡ 0)
                ⊎ ((world g p).seen x i BEAT_COLUMN < (world g p).table 0 x i BEAT_COLUMN)
                → (turns_without_news t.start.waits i ≡ 0)
                ⊎ (beat_of t.start.waits i < (world g q).seen x i BEAT_COLUMN)
            news (inl none) = inl none
            news (inr less) = inr (omega (arith, less, before.beat i l d, sees i l d))

    by : (m ≡ x) ⊎ (m ≢ x) → HasWaited g (world g q) m y
    by (inl e) = rw e (own y (rw e at there))
    by (inr d) =
        let was = t.before.paused.waits m y (member_same t m y d there) in record {
          limit = was.limit;
          beat = λ i l e. was.beat i l e ∙ sym (ap (λ (h : Holding). h.seen i BEAT_COLUMN) (others_same t m d));
          few = was.few;
        }

-- where nobody has ended, whoever has had a turn since has news
still_fresh : {g : Group} {setups : List (Option Setup)} {limit most r x : ℕ} {p q : Program}
    → HasTaken g setups limit most r x p q → ((i : ℕ) → i < roster g → (world g q).end i ≡ None)
    → AreFresh g (x + 1) q
still_fresh {g = g} {x = x} {p = p} {q = q} t unended m i y there l d since = by (cases_eq m x) (cases_eq i x) since
  where
    going : (k : ℕ) → k < roster g → (world g p).end k ≡ None
    going k a = by_member (cases_eq k x)
      where
        by_member : (k ≡ x) ⊎ (k ≢ x) → (world g p).end k ≡ None
        by_member (inl e) = rw e (of_there p (λ z. z.end) (opening_world g).end x t.start t.began ∙ t.alive)
        by_member (inr other) = ap (λ (h : Holding). h.end) (sym (others_same t k other)) ∙ unended k a

    seen_same : m ≢ x → (world g q).seen m i BEAT_COLUMN ≡ (world g p).seen m i BEAT_COLUMN
    seen_same other = ap (λ (h : Holding). h.seen i BEAT_COLUMN) (others_same t m other)

    -- the beat that x has pushed is higher than what anybody has seen
    risen : m ≢ x → i ≡ x
        → (turns_without_news y.waits i ≡ 0) ⊎ ((world g q).seen m i BEAT_COLUMN < (world g q).table 0 m i BEAT_COLUMN)
    risen other e = rw e (inr (omega (
      arith,
      ap (λ (h : Holding). h.seen x BEAT_COLUMN) (others_same t m other),
      ((told (first_before t)).old.in_seen m x BEAT_COLUMN (λ z. other (sym z))).number,
      ap (λ v. (world g p).table v m x BEAT_COLUMN) ((first_before t).view m),
      ((told (first_before t)).old.in_table 0 m x BEAT_COLUMN).number,
      t.turned.beats,
      subst (λ v. (world g q).table v m x BEAT_COLUMN ≡ (world g q).past.own x v BEAT_COLUMN)
          ((first_behind t).view x) ((has_rested t).pushed m BEAT_COLUMN
          (omega (arith, present_within q.members m y there, t.turned.steady.program.all)) other (omega arith)
          (λ z. unended x t.within)),
    )))

    by : (m ≡ x) ⊎ (m ≢ x) → (i ≡ x) ⊎ (i ≢ x) → IsAfter (x + 1) m i
        → (turns_without_news y.waits i ≡ 0) ⊎ ((world g q).seen m i BEAT_COLUMN < (world g q).table 0 m i BEAT_COLUMN)
    by (inl e) side (inl early) = absurd (omega (arith, e, early.0))
    by (inl e) side (inr late) = absurd (omega (arith, e, late.1, late.2))
    by (inr other) (inl e) after = risen other e
    by (inr other) (inr apart) after = same
        (t.before.fresh going m i y (member_same t m y other there) l d (earlier after))
      where
        earlier : IsAfter (x + 1) m i → IsAfter x m i
        earlier (inl (low, inl less)) = inl (omega (arith, low), inl less)
        earlier (inl (low, inr less)) = inl (omega (arith, low), inr (omega (arith, less, apart)))
        earlier (inr (low, less, more)) = inr (omega (arith, low, other), less, omega (arith, more, apart))

        same : (turns_without_news y.waits i ≡ 0)
            ⊎ ((world g p).seen m i BEAT_COLUMN < (world g p).table 0 m i BEAT_COLUMN)
            → (turns_without_news y.waits i ≡ 0)
            ⊎ ((world g q).seen m i BEAT_COLUMN < (world g q).table 0 m i BEAT_COLUMN)
        same (inl none) = inl none
        same (inr less) = inr (omega (
          arith,
          less,
          seen_same other,
          others_stay t i m BEAT_COLUMN apart l
              (omega (arith, present_within q.members m y there, t.turned.steady.program.all)) (λ e. d (sym e))
              (omega arith),
        ))

-- ---- the turn

-- behind the turn of member x the program is between turns again, with one member more that has had its own
pub turn_keeps : {g : Group} {setups : List (Option Setup)} {limit most r x : ℕ} {p q : Program}
    → HasTaken g setups limit most r x p q → IsBetween g setups most r (x + 1) q
turn_keeps {g = g} {most = most} {r = r} {x = x} {p = p} {q = q} t = record {
  paused = record {
    steady = t.turned.steady;
    ease = t.turned.ease;
    stand = t.stand;
    well = λ m y there. well m y there (cases_eq m x);
    whole = λ m. between m (cases_eq m x);
    upright = λ i a. upright i a (cases_eq i x);
    pushed = still_pushed t;
    waits = still_waits t;
  };
  fresh = still_fresh t;
  state = state t.before.state (stays_upright t);
}
  where
    well : (m : ℕ) (y : Running) → present_at q.members m ≡ Some y → (m ≡ x) ⊎ (m ≢ x) → y.failed ≡ None
    well m y there (inl e) = t.turned.well y (rw e at there)
    well m y there (inr d) = t.before.paused.well m y (sym (t.turned.others m d) ∙ there)

    between : (m : ℕ) → (m ≡ x) ⊎ (m ≢ x) → is_between_turns (present_at q.members m) ≡ true
    between m (inl e) = rw e t.whole
    between m (inr d) = ap is_between_turns (t.turned.others m d) ∙ t.before.paused.whole m

    upright : (i : ℕ) → i < roster g → (i ≡ x) ⊎ (i ≢ x) → IsUpright ((world g q).end i)
    upright i a (inl e) = rw e (stays_upright t)
    upright i a (inr d) = subst (λ (h : Holding). IsUpright h.end)
        (sym (others_same t i d)) (t.before.paused.upright i a)

    state : ShowDone g (world g p) ⊎ IsGoing g most r x (world g p) → IsUpright ((world g q).end x)
        → ShowDone g (world g q) ⊎ IsGoing g most r (x + 1) (world g q)
    state (inl shows) how = inl (still_show t shows)
    state (inr go) (inl none) = inr (goes_on t go none)
    state (inr go) (inr is_done) = inl (subst (AllShowDone (world g q) 0) (members_are (first_behind t) x)
        (subst (λ v. AllShowDone (world g q) v ((world g q).members x)) ((first_behind t).view x)
        (done_shows_all g (world g q) x t.turned.steady.group t.turned.steady.reached is_done)))
