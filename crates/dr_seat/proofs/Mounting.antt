-- Seats that are opened.
use Rattle.std.proofs.Common.{◌≡◌, ◌≤◌, length, refl, List, ℕ}
use Rattle.dr_log.specs.declared.fault.MountWhy.{MountWhy}
use Rattle.dr_log.specs.declared.fault.MountWhy.TheVariants as mounts
use Rattle.dr_log_bytes.specs.Grammar.{IsDamaged}
use Rattle.dr_seat.specs.Opened.{IsLogFault, fault_by}

pub unmounted : (log : List ℕ) (why : MountWhy) → 10 ≤ length log
    → ((at : ℕ) → why ≡ mounts.Damaged at → IsDamaged log at) → IsLogFault log (fault_by why)
unmounted log mounts.OutOfMemory long damaged = tt
unmounted log mounts.DiskFault long damaged = tt
unmounted log (mounts.Damaged at) long damaged = (long, damaged at refl)
