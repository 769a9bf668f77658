use Rattle.std.proofs.Common.{refl, subst}
use Rattle.dr_io.specs.Plan.{IsPlanned}
use Rattle.dr_yard.specs.Memory.{MemoryYardState}
use Rattle.dr_yard.proofs.memory_yard.MemoryYardYard.lend.Goals as goal

pub returns-in-Err-clause-planned : goal.returns-in-Err-clause-planned
returns-in-Err-clause-planned c = (
  λ _. subst (λ (yard : MemoryYardState). IsPlanned yard.plan) c.self.view_is (c.in-Err.ensures.planned.0 refl),
  λ _. refl,
)
