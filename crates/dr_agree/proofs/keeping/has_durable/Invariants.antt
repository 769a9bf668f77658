use Rattle.std.proofs.Common.{ℕ, ◌<◌, take}
use Rattle.dr_history.specs.History.{IsPrefixOf}
use Rattle.dr_machine.specs.Group.{IsPresent}
use Rattle.dr_world.specs.Held.{its_group, its_world}
use Rattle.dr_agree.proofs.keeping.has_durable.Given as goal

abbrev pub invariant-loop-m : goal.invariant-loop-m
invariant-loop-m l = (i : ℕ) → i < l.m → IsPresent (its_group l.world) i
    → IsPrefixOf (take ((its_world l.world).past.durable i) ((its_world l.world).past.history i)) l.entries
