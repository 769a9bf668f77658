-- What a watcher was told of moves, and of more of them.
use Rattle.std.{specs.Prelude.Some, proofs.Common.{◌≡◌, refl, sym, subst, ℕ, List, [], ◌∷◌, ◌++◌}}
use Rattle.dr_program.specs.{Presence.present_at, Program.{Move, Program, ran, step_of}, Running.Running}
use Rattle.dr_program.specs.declared.outcome.Outcome.{Outcome}
use Rattle.dr_sim.specs.{Sound.move, Watched.WasTold}

-- who was told of moves, and then of those behind them, was told of all
pub told_both : {W : Type 0} (sees : W → Running → List ℕ → W → Type 0) (p : Program) (es fs : List Move)
    (q : Program) (old mid new : W) → q ≡ ran p es → WasTold sees p es old mid → WasTold sees q fs mid new
    → WasTold sees p (es ++ fs) old new
unfolding ran
told_both sees p [] fs q old mid new taken first rest =
    subst (λ w. WasTold sees p fs w new) (sym first) (subst (λ x. WasTold sees x fs mid new) taken rest)
told_both sees p (e ∷ es) fs q old mid new taken (r, next, there, seen, more) rest =
    (r, next, there, seen, told_both sees (step_of p e) es fs q next mid new taken more rest)

-- and so who was told of one more
pub told_more : {W : Type 0} (sees : W → Running → List ℕ → W → Type 0) (p : Program) (es : List Move)
    (q : Program) (m : ℕ) (o : Outcome) (r : Running) (old mid new : W) → q ≡ ran p es → WasTold sees p es old mid
    → present_at q.members m ≡ Some r → sees mid r q.table new → WasTold sees p (es ++ move m o ∷ []) old new
told_more sees p es q m o r old mid new taken first there seen =
    told_both sees p es (move m o ∷ []) q old mid new taken first (r, new, there, seen, refl)
