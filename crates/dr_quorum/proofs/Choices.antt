-- What the steps of a choice know makes a start, or a reason for which there is none.
use Rattle.std.{specs.Prelude.IfErr, proofs.Common.{◌≡◌, sym, subst, Result, Ok, Err}}
use Rattle.dr_history.specs.declared.opening.Opening.{Opening}
use Rattle.dr_restart.specs.{Choosing.Handed, declared.start.Start.Start}
use Rattle.dr_quorum.specs.{Telling.IsRightlyTold, declared.faults.ChooseFault.{ChooseFault, TheVariants.OutOfMemory}}

-- of want of memory nothing is told
pub told_memory : (o : Opening) (h : Handed) (r : Result Start ChooseFault) → IfErr r (λ why. why ≡ OutOfMemory)
    → IfErr r (IsRightlyTold o h)
told_memory o h (Ok start) e = tt
told_memory o h (Err why) e = subst (IsRightlyTold o h) (sym e) tt
