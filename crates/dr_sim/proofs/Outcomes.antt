-- Whether appends went well over moves: they did, or some member's has failed, and that stays.
use Rattle.std.specs.Prelude.{Option, None, Some}
use Rattle.std.proofs.Common.{◌≡◌, refl, sym, ap, ◌∙◌, subst, inl, inr, ◌⊎◌, ℕ, List, [], ◌∷◌, ◌++◌}
use Rattle.std.proofs.lemmas.{Bool.cases_eq, List.Elements.{All-append, All-nil}, Option.same_Some}
use Rattle.dr_entry.specs.declared.end.End.{End}
use Rattle.dr_program.{specs.Presence.present_at, proofs.Programs.one_ok}
use Rattle.dr_program.specs.Program.{Move, Program, after_deed, letter_for, moved_by, next_sight, ran, step_of, went}
use Rattle.dr_program.{specs.Running.{Running, next_step}, proofs.Present.{present_within, present_set, present_kept}}
use Rattle.dr_program.{specs.declared.outcome.Outcome.{Outcome, TheVariants.Ok}, proofs.Search.still_failed}
use Rattle.dr_sim.specs.{Simulated.{SomeFailed, WentWell}, Sound.move}

failed_step : (p : Program) (e : Move) → SomeFailed p → SomeFailed (step_of p e)
failed_step p e (m, r, why, there, at) = by (present_at p.members e.member) refl
  where
    on : (x : Running) → present_at p.members e.member ≡ Some x → (o : Option End) → SomeFailed (went p x e o)
    on x is (Some end) = (m, r, why, there, at)
    on x is None = elim (cases_eq m e.member) [
      | inr other ↦ (
        m,
        r,
        why,
        present_kept p.members e.member m
            (after_deed (next_sight p.table x) (letter_for p e.member) e.outcome x (next_step x)) other ∙ there,
        at,
      )
      | inl here ↦
          let same : r ≡ x = same_Some r x (sym there ∙ ap (present_at p.members) here ∙ is) in
          let next = still_failed p.table (letter_for p e.member) e.outcome x why
          (ap (λ (y : Running). y.failed) (sym same) ∙ at) in (
            e.member,
            after_deed (next_sight p.table x) (letter_for p e.member) e.outcome x (next_step x),
            next.0,
            present_set p.members e.member (after_deed (next_sight p.table x) (letter_for p e.member) e.outcome x (next_step x))
                (present_within p.members e.member x is),
            next.1,
          )
    ]

    by : (o : Option Running) → present_at p.members e.member ≡ o → SomeFailed (moved_by p o e)
    by None is = (m, r, why, there, at)
    by (Some x) is = on x is x.replica.end

failed_ran : (p : Program) (es : List Move) → SomeFailed p → SomeFailed (ran p es)
unfolding ran
failed_ran p [] failed = failed
failed_ran p (e ∷ es) failed = failed_ran (step_of p e) es (failed_step p e failed)

-- no moves went well
pub none_well : (p : Program) → WentWell [] p
none_well p = inl (All-nil (λ (e : Move). e.outcome ≡ Ok))

-- so did moves and more of them
pub well_both : (es fs : List Move) (p q : Program) → WentWell es p → WentWell fs q → q ≡ ran p fs
    → WentWell (es ++ fs) q
well_both es fs p q (inl first) (inl next) is = inl (All-append (λ (e : Move). e.outcome ≡ Ok) es fs first next)
well_both es fs p q first (inr failed) is = inr failed
well_both es fs p q (inr failed) next is = inr (subst SomeFailed (sym is) (failed_ran p fs failed))

-- and one more
pub well_one : (m : ℕ) (o : Outcome) (q : Program) → (o ≡ Ok) ⊎ SomeFailed q → WentWell (move m o ∷ []) q
well_one m o q (inl ok) = inl (one_ok (move m o) ok)
well_one m o q (inr failed) = inr failed
