use Rattle.std.proofs.Common.{ℕ, ◌<◌}
use Rattle.dr_history.specs.History.{IsPrefixOf}
use Rattle.dr_machine.specs.Group.{IsPresent}
use Rattle.dr_world.specs.Held.{its_group, its_world}
use Rattle.dr_agree.proofs.keeping.is_delivered.Given as goal

abbrev pub invariant-loop-m : goal.invariant-loop-m
invariant-loop-m l = (i : ℕ) → i < l.m → IsPresent (its_group l.world) i
    → IsPrefixOf l.entries ((its_world l.world).past.history i) → ⊥
