use Rattle.std.proofs.Common.{◌≡◌, ◌<◌, ◌≤◌, ℕ, map, take, vec_capacity, vec_len}
use Rattle.dr_entry.specs.declared.limits.TheConstants.{MAX_MEMBERS}
use Rattle.dr_yard.specs.{Memory.{IsEmptyDisk, place_of}, declared.berth.Berth.TheVariants.Here}
use Rattle.dr_yard.proofs.memory_yard.MemoryYard.new.Given as goal

abbrev pub invariant-loop-disk : goal.invariant-loop-disk
invariant-loop-disk l = record {
  same : l.places.items ≡ map Here l.yielded;
  room : MAX_MEMBERS ≤ vec_capacity l.places;
}

abbrev pub invariant-loop : goal.invariant-loop
invariant-loop l = record {
  count : vec_len l.places ≡ l.counter;
  room : MAX_MEMBERS ≤ vec_capacity l.places;
  same : take l.held l.places.items ≡ map Here l.fn.disks.items;
  empty : (m : ℕ) → l.held ≤ m → m < l.counter → IsEmptyDisk (place_of l.places.items m);
}
