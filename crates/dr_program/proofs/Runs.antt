-- Programs that take deeds one after the other.
use Rattle.std.specs.{List.range_with_len, Prelude.{Option, None, Some}}
use Rattle.std.proofs.Common.{◌≡◌, ◌⊎◌, inl, inr, refl, sym, subst, ℕ, true, false, List, [], ◌∷◌, ◌++◌, ◌∙◌, ◌+◌, ap, zero, suc, length}
use Rattle.std.proofs.lemmas.{Bool.not-true, Option.same_Some}
use Rattle.dr_entry.specs.declared.entry.Entry.{Entry}
use Rattle.dr_machine.specs.declared.step.Step.{Step, TheVariants.{Append, Do, Join, LogVote}}
use Rattle.dr_program.specs.Program.{Program, Move, after_deed, comes_to, step_of, ran}
use Rattle.dr_program.specs.Replica.{Replica, is_inside}
use Rattle.dr_program.specs.Running.{Running, after_step, broken_off, settled, took_letter}
use Rattle.dr_program.specs.{Schedule.{TakeTurns, Rounds, IsLockstep}, Steps.{IsAppend, IsNoJoin, allows, sight}}
use Rattle.dr_program.{specs.declared.outcome.{LogWhy.LogWhy, Outcome.Outcome}, proofs.Programs.{ran_one, still}}
use Rattle.dr_program.specs.declared.outcome.Outcome.TheVariants as outcomes

-- a program may take more deeds after others
pub ran_on : (p : Program) (a b : List Move) → ran p (a ++ b) ≡ ran (ran p a) b
unfolding ran
ran_on p [] b = refl
ran_on p (e ∷ es) b = ran_on (step_of p e) es b

-- a deed whose append goes well is the step that is due, or a take
pub after_ok : (table : List ℕ) (letter : Option (List Entry)) (r : Running) (s : Step)
    → (after_deed (sight table r.replica s) letter outcomes.Ok r s ≡ after_step (sight table r.replica s) r)
    ⊎ ((s ≡ Join) × (after_deed (sight table r.replica s) letter outcomes.Ok r s ≡ settled (took_letter letter r)))
after_ok table letter r Join = inr (refl, refl)
after_ok table letter r (Do a) = inl refl
after_ok table letter r s = inl refl

-- any other is that step, however appends go
failed : (table : List ℕ) (letter : Option (List Entry)) (why : LogWhy) (r : Running) (s : Step)
    → (after_deed (sight table r.replica s) letter (outcomes.Failed why) r s ≡ after_step (sight table r.replica s) r)
    ⊎ ((IsAppend s × (after_deed (sight table r.replica s) letter (outcomes.Failed why) r s ≡ broken_off why r))
    ⊎ ((s ≡ Join) × (after_deed (sight table r.replica s) letter (outcomes.Failed why) r s
    ≡ settled (took_letter letter r))))
failed table letter why r Append = inr (inl (tt, refl))
failed table letter why r (LogVote v) = inr (inl (tt, refl))
failed table letter why r Join = inr (inr (refl, refl))
failed table letter why r (Do a) = inl refl
failed table letter why r s = inl refl

-- a member has taken the step that is due after a deed, was broken off in an append, or has done a take
pub after_either : (P : Running → Type 0) (table : List ℕ) (letter : Option (List Entry)) (o : Outcome) (r : Running)
    (s : Step) → P (after_step (sight table r.replica s) r) → ((why : LogWhy) → IsAppend s → P (broken_off why r))
    → (s ≡ Join → P (settled (took_letter letter r))) → P (after_deed (sight table r.replica s) letter o r s)
after_either P table letter outcomes.Ok r s taken broken takes = elim (after_ok table letter r s) [
  | inl same ↦ subst P (sym same) taken
  | inr take ↦ subst P (sym take.1) (takes take.0)
]
after_either P table letter (outcomes.Failed why) r s taken broken takes = elim (failed table letter why r s) [
  | inl same ↦ subst P (sym same) taken
  | inr (inl append) ↦ subst P (sym append.1) (broken why append.0)
  | inr (inr take) ↦ subst P (sym take.1) (takes take.0)
]

-- what a due step comes to is that step: it is taken, or a join that finds its letter
pub came_to : (table : List ℕ) (letter : Option (List Entry)) (o : Outcome) (r : Running) (due s : Step)
    → comes_to letter (Some due) o ≡ Some s → (due ≡ s) × ((IsNoJoin due
    × (after_deed (sight table r.replica due) letter o r due ≡ after_step (sight table r.replica due) r))
    ⊎ ((due ≡ Join) × ((l : List Entry) × (letter ≡ Some l))))
came_to table letter outcomes.Ok r Append s came = (same_Some Append s came, inl (tt, refl))
came_to table letter (outcomes.Failed why) r Append s came = absurd (cc came)
came_to table letter outcomes.Ok r (LogVote v) s came = (same_Some (LogVote v) s came, inl (tt, refl))
came_to table letter (outcomes.Failed why) r (LogVote v) s came = absurd (cc came)
came_to table None o r Join s came = absurd (cc came)
came_to table (Some l) o r Join s came = (same_Some Join s came, inr (refl, (l, refl)))
came_to table letter o r (Do a) s came = (same_Some (Do a) s came, inl (tt, refl))
came_to table letter o r due s came = (same_Some due s came, inl (tt, refl))

-- and what comes to none is an append that failed, or a join that finds no letter
pub comes_to_none : (word : ℕ) (letter : Option (List Entry)) (o : Outcome) (r : Running) (due : Step)
    → comes_to letter (Some due) o ≡ None
    → (IsAppend due × ((why : LogWhy) × (after_deed word letter o r due ≡ broken_off why r)))
    ⊎ ((due ≡ Join) × (after_deed word letter o r due ≡ settled (took_letter None r)))
comes_to_none word letter outcomes.Ok r Append none = absurd (cc none)
comes_to_none word letter (outcomes.Failed why) r Append none = inl (tt, (why, refl))
comes_to_none word letter outcomes.Ok r (LogVote v) none = absurd (cc none)
comes_to_none word letter (outcomes.Failed why) r (LogVote v) none = inl (tt, (why, refl))
comes_to_none word None o r Join none = inr (refl, refl)
comes_to_none word (Some l) o r Join none = absurd (cc none)
comes_to_none word letter o r (Do a) none = absurd (cc none)
comes_to_none word letter o r due none = absurd (cc none)

-- ---- joins

-- only a member that is none of its view may join
pub joins_outside : (r : Replica) (s : Step) → s ≡ Join → allows r s ≡ true → is_inside r ≡ false
joins_outside r s join may = not-true (is_inside r) (subst (λ x. allows r x ≡ true) join may)

pub inside_no_join : (r : Replica) (s : Step) → is_inside r ≡ true → allows r s ≡ true → IsNoJoin s
inside_no_join r Join inside may = absurd (cc (not-true (is_inside r) may, inside))
inside_no_join r s inside may = tt

-- one move more
pub ran_more : (p : Program) (es : List Move) (e : Move) → ran p (es ++ e ∷ []) ≡ step_of (ran p es) e
ran_more p es e = ran_on p es (e ∷ []) ∙ ran_one (ran p es) e

then : (p mid q : Program) (a b es : List Move) → es ≡ a ++ b → mid ≡ ran p a → q ≡ ran mid b → q ≡ ran p es
then p mid q a b es both first second = second ∙ ap (λ x. ran x b) first ∙ sym (ran_on p a b) ∙ ap (ran p) (sym both)

pub turns_taken : (ms : List ℕ) (p : Program) (es : List Move) (q : Program) → TakeTurns ms p es q → q ≡ ran p es
turns_taken [] p es q t = still p q es t.0 t.1
turns_taken (m ∷ ms) p es q (turn, rest, mid, both, first, more) = then p mid q turn rest es both (elim first [
  | inl ended ↦ still p mid turn ended.1 ended.2
  | inr took ↦ took.1.taken
]) (turns_taken ms mid rest q more)

rounds_taken : (k : ℕ) (p : Program) (es : List Move) (q : Program) → Rounds k p es q → q ≡ ran p es
rounds_taken zero p es q t = still p q es t.0 t.1
rounds_taken (suc k) p es q (round, rest, mid, both, first, more) = then p mid q round rest es both
    (turns_taken (range_with_len 0 (length p.members)) p round mid first) (rounds_taken k mid rest q more)

-- a program that a lockstep schedule leads to is the one after its moves
pub lockstep_taken : (begun : Program) (es : List Move) (p : Program) → IsLockstep begun es p → p ≡ ran begun es
lockstep_taken begun es p run = rounds_taken run.rounds begun es p run.ran
