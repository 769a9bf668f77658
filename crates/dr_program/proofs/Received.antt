-- A schedule leads to one program where no append fails, so a script and a start lead to one age.
use Rattle.std.{specs.{List.range_with_len, Prelude.Option}, proofs.lemmas.Bool.cases_lt}
use Rattle.std.proofs.Common.{◌≡◌, ℕ, ◌<◌, true, arith, ap, not, length, refl, sym, ◌∙◌, subst, suc, List, [], ◌∷◌, ◌≢◌, ⊎_elim, ◌+◌, ◌≤◌, ◌⊎◌, ◌++◌, length-append}
use Rattle.dr_entry.proofs.Bits.{none_pass}
use Rattle.dr_history.specs.Members.{has}
use Rattle.dr_program.specs.{Form.{HasForm, IsRunningMember}, Presence.present_at}
use Rattle.dr_program.specs.{Program.{AllEnded, Program, has_ended, AllOk, Move, ran, step_of}, Replica.{Replica, me}}
use Rattle.dr_program.specs.{Running.Running, Schedule.{going, AreChosen, next_state}}
use Rattle.dr_program.proofs.{Present.{ended_at, place_before}, Programs.place_past}

-- a member of the view is one of 16
pub few_members : (r : Replica) (i : ℕ) → HasForm r → has r.members i ≡ true → i < 16
few_members r i form member = omega (arith, form.roster i member, form.members, form.rows.few)

-- and so is a running member
pub running_number : (r : Running) → IsRunningMember r → me r.replica < 16
running_number r running =
    let form = running.replica in omega (arith, form.number, form.members, form.rows.few)

none_go : (p : Program) → AllEnded p → length (going p) ≡ 0
none_go p all = none_pass (λ m. not (has_ended (present_at p.members m))) (range_with_len 0 (length p.members))
    (λ m. ap not (ended_at p m all))

pub chosen_same : (x : ℕ) (p : Program) (es fs : List Move) → AreChosen x p es → AreChosen x p fs → AllOk es
    → AllOk fs → AllEnded (ran p es) → AllEnded (ran p fs) → es ≡ fs
unfolding ran
chosen_same x p [] [] one other well well' ended ended' = refl
chosen_same x p [] (f ∷ fs) one other well well' ended ended' = absurd (omega (arith, other.0, none_go p ended))
chosen_same x p (e ∷ es) [] one other well well' ended ended' = absurd (omega (arith, one.0, none_go p ended'))
chosen_same x p (e ∷ es) (f ∷ fs) one other well well' ended ended' =
    let first : e ≡ f = λ z. record {
      member = (one.1 ∙ sym other.1) z;
      outcome = (well 0 e (omega arith) ∙ sym (well' 0 f (omega arith))) z;
    } in
    let more : es ≡ fs = chosen_same (next_state x) (step_of p e) es fs one.2
    (subst (λ (y : Move). AreChosen (next_state x) (step_of p y) fs) (sym first) other.2)
    (λ k d within. well (suc k) d (omega arith)) (λ k d within. well' (suc k) d (omega arith))
    ended (subst (λ (y : Move). AllEnded (ran (step_of p y) fs)) (sym first) ended') in
    λ z. first z ∷ more z

-- the others stay
pub place_other : {X : Type 0} (xs : List (Option X)) (x : Option X) (m : ℕ) → m ≢ length xs
    → present_at (xs ++ x ∷ []) m ≡ present_at xs m
place_other xs x m apart = ⊎_elim (λ (l : m < length xs). place_before xs x m l)
    (λ (g : length xs ≤ m). place_past (xs ++ x ∷ []) m (omega (arith, g, apart, length-append xs (x ∷ [])))
    ∙ sym (place_past xs m g)) (cases_lt m (length xs))
