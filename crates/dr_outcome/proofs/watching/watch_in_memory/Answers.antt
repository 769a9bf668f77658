use Rattle.std.proofs.Common.{inr, refl}
use Rattle.dr_ages.specs.declared.mode.Mode.TheVariants.{Sim}
use Rattle.dr_yard.specs.Places.{place_told}
use Rattle.dr_outcome.proofs.Runs.{in_memory}
use Rattle.dr_outcome.proofs.watching.watch_in_memory.Goals as goal

pub returns-in-Ok-clause-ran : goal.returns-in-Ok-clause-ran
returns-in-Ok-clause-ran g c = inr (
  in_memory c.args.script.now c.args.part.now Sim c.watch_over.result.ages c.watch_over.result.stop (place_told c.in-Ok.yard)
      (record { told = place_told c.watch_over.new.yard; faults = λ m. 0 }) c.in-Ok.ensures.empty (λ m. refl)
      c.watch_over.ensures.run,
  c.watch_over.ensures.last,
)
