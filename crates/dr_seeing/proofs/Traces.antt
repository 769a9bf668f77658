-- What is told of a run, by what its watcher was told.
use Rattle.std.proofs.Common.{◌≡◌, ℕ, List, [], sym, subst, append-nil, ◌+◌, ◌++◌, Option, append_assoc}
use Rattle.dr_seeing.specs.Output.{HasTold, Tells, Written}

-- nothing more is told where nothing changes
pub tells_same : (old new : Written) → old ≡ new → Tells [] old new
tells_same old new same = λ held fell before told. subst (λ (l : List ℕ). HasTold held fell l new)
    (sym (append-nil before)) (subst (λ (w : Written). HasTold held fell before w) same told)

-- what is drawn, the last line and what closes a picture are told one behind the other
pub hung : (drawn line closing : List ℕ) (held : Option (List ℕ)) (fell : ℕ) (old first then new : Written)
    → HasTold held fell [] old → Tells drawn old first → Tells line first then → Tells closing then new
    → HasTold held fell (drawn ++ (line ++ closing)) new
hung drawn line closing held fell old first then new told a b c = subst (λ (l : List ℕ). HasTold held fell l new)
    (append_assoc drawn line closing) (c held fell (drawn ++ line) (b held fell drawn (a held fell [] told)))
