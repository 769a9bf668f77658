use Rattle.std.proofs.Common.{◌≡◌, ℕ, false, length, Some}
use Rattle.dr_disk.specs.Memory.{MemoryState}
use Rattle.dr_log.specs.State.{LogState}
use Rattle.dr_opening.specs.Lists.{log_of}
use Rattle.dr_tests.proofs.opening.disks.logs_of.Given as goal

abbrev pub invariant-loop-m : goal.invariant-loop-m
invariant-loop-m l = (length l.logs.items ≡ l.m)
    × ((m : ℕ) (log : LogState MemoryState) → log_of l.logs.items m ≡ Some log → log.failed ≡ false)
