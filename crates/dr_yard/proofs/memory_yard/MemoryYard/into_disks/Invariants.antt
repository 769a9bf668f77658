use Rattle.std.proofs.Common.{◌≡◌, ◌≤◌, map, vec_capacity}
use Rattle.dr_entry.specs.declared.limits.TheConstants.{MAX_MEMBERS}
use Rattle.dr_yard.specs.declared.berth.Berth.TheVariants.{Here}
use Rattle.dr_yard.proofs.memory_yard.MemoryYard.into_disks.Given as goal

abbrev pub invariant-loop-place : goal.invariant-loop-place
invariant-loop-place l = record {
  next : (goal.iterator-loop-place).can_next l.place-iterator;
  finite : (goal.iterator-loop-place).is_finite l.place-iterator;
  same : map Here l.disks.items ≡ l.yielded;
  room : MAX_MEMBERS ≤ vec_capacity l.disks;
}
