-- What a yard of disks in memory holds, and what becomes of it as a disk is lent.
use Rattle.std.specs.Prelude.{◌≡◌, ℕ, ◌<◌, List, [], get_or, Option, None, Some, Bool, true, false, Result, Ok, Err}
use Rattle.dr_disk.specs.{Disk.{Told, Calls}, Memory.{MemoryState, with_fault}}
use Rattle.dr_entry.specs.declared.limits.TheConstants.{MAX_MEMBERS}
use Rattle.dr_io.specs.Plan.{CallPlan, plan_of}
use Rattle.dr_yard.specs.declared.berth.Berth.{Berth, TheVariants.{Here, Lent}}

-- a place for the disk of each member, by number, and which calls of `lend` are to fail
pub record MemoryYardState : Type 0 where
  pub places : List Berth
  pub plan : CallPlan

abbrev pub is_lent : Berth → Bool
is_lent (Here disk) = false
is_lent (Lent faults) = true

-- what the disk of a place tells; of one that is lent, an empty one
abbrev pub told_in : Berth → Option Told
told_in (Here disk) = Some (Calls disk.calls)
told_in (Lent faults) = Some (Calls [])

-- how many faults it has counted; of one that is lent, as many as when it was lent
abbrev pub faults_in : Berth → ℕ
faults_in (Here disk) = disk.plan.faults
faults_in (Lent faults) = faults

-- the place of a member
abbrev pub place_of : List Berth → ℕ → Berth
place_of places m = get_or places m (Lent 0)

-- no disk of a member is lent
abbrev pub AreHere : List Berth → Type 0
AreHere places = (m : ℕ) → m < MAX_MEMBERS → is_lent (place_of places m) ≡ false

-- an empty disk none of whose calls is to fail
abbrev pub IsEmptyDisk : Berth → Type 0
IsEmptyDisk (Here disk) = (disk.calls ≡ []) × (disk.plan ≡ plan_of []) × (disk.stop ≡ None)
IsEmptyDisk (Lent faults) = ⊥

-- the same place, whose disk has one fault more
abbrev pub faulted : Berth → Berth
faulted (Here disk) = Here (with_fault disk)
faulted (Lent faults) = Lent faults

-- the place after its disk was asked for, with this answer: the disk is away, or has one fault more
abbrev pub asked : {E : Type 0} → Result MemoryState E → Berth → Berth
asked (Ok disk) place = Lent disk.plan.faults
asked (Err _) place = faulted place
