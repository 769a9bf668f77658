-- What a `MemorySource` is to its callers.
use Rattle.std.specs.Prelude.{ℕ, List}
use Rattle.dr_io.specs.Plan.{CallPlan}

-- the bytes that are left, the most that one call gives, and which calls fail
pub record SourceState : Type 0 where
  pub left : List ℕ
  pub piece : ℕ
  pub plan : CallPlan
