-- The disks of a yard that are lent, and the logs on them.
use Rattle.std.specs.Option.{option_map_or}
use Rattle.std.specs.Prelude.{◌≡◌, ℕ, ◌<◌, ◌≤◌, Bool, not, false, List, length, Option, Some, IfSome, is_some}
use Rattle.dr_disk.specs.{Calls.Sync, Disk.{Told, added}, Images.Goes}
use Rattle.dr_entry.specs.declared.limits.TheConstants.{MAX_MEMBERS}
use Rattle.dr_history.specs.Members.{has}
use Rattle.dr_io.specs.Faults.{Rose}
use Rattle.dr_log.specs.Appending as mounts
use Rattle.dr_log.specs.{Standing.{KeepsRecords, least_length}, State.LogState}
use Rattle.dr_log_bytes.specs.Content.{OnLog}
use Rattle.dr_served.specs.Served.{IsSafe}
use Rattle.dr_opening.specs.Lists.{log_of}
use Rattle.dr_yard.specs.Yards.{YardState}
use Rattle.dr_ages.specs.{Found.{AreFound, ReadsAs}, Stops.{HasDamaged, ReadsDamaged}, declared.stop.Stop.Stop}
use Rattle.dr_ages.specs.declared.stop.Stop.TheVariants.{OutOfMemory, DiskFault, Damaged}

-- the disks of members are lent that stand under these logs, by number; a disk has counted no fewer faults than
-- the yard has
pub record AreLent {Y D : Type 0} (is_lent : Y → ℕ → Bool) (yard_faults : Y → ℕ → ℕ) (faults : D → ℕ)
    (yard : Y) (logs : List (Option (LogState D))) : Type 0 where
  pub few : length logs ≤ MAX_MEMBERS
  pub lent : (m : ℕ) → m < MAX_MEMBERS → is_lent yard m ≡ is_some (log_of logs m)
  pub counted : (m : ℕ) (log : LogState D) → log_of logs m ≡ Some log
      → yard_faults yard m ≤ faults log.disk

-- there is a log in each place but those of the missing
abbrev pub AreAllBut : {D : Type 0} → ℕ → List (Option (LogState D)) → Type 0
AreAllBut missing logs = (m : ℕ) → m < length logs → is_some (log_of logs m) ≡ not (has missing m)

-- a disk that told so, and had counted so many faults, counts no fewer, and at each moment since a crash
-- would have left what it might have left before, as far as records go
pub record IsAlike (told : Option Told) (count : ℕ) (now : Option Told) (faults : ℕ) : Type 0 where
  pub moments : Goes told now KeepsRecords
  pub later : count ≤ faults

-- a log was mounted from a disk that told so and had counted so many faults, and counted no other in it: it
-- is what was read, and safe
pub record IsMounted {D : Type 0} (tells : D → Option Told) (faults : D → ℕ) (told : Option Told) (count : ℕ)
    (log : LogState D) : Type 0 where
  pub found : IfSome told (ReadsAs log.content)
  pub safe : IsSafe tells log
  pub least : least_length log.content ≤ log.content.length
  pub limit : log.limit ≡ 2147483648
  pub whole : log.failed ≡ false
  pub on : IsAlike told count (tells log.disk) (faults log.disk)
  pub calm : faults log.disk ≡ count
  pub calls : mounts.IsMounted told (tells log.disk)

-- these logs were mounted from the disks of a yard, by number
abbrev pub AreMounted : {D : Type 0} → (D → Option Told) → (D → ℕ) → YardState → List (Option (LogState D))
    → Type 0
AreMounted {D} tells faults before logs = (m : ℕ) (log : LogState D) → log_of logs m ≡ Some log
    → IsMounted tells faults (before.told m) (before.faults m) log

-- the state of a yard that has the disks of these logs in the place of its own
abbrev pub with_logs : {D : Type 0} → (D → Option Told) → (D → ℕ) → YardState → List (Option (LogState D))
    → YardState
with_logs {D} tells faults yard logs = record {
  told = λ m. option_map_or (λ (log : LogState D). tells log.disk) (log_of logs m) (yard.told m);
  faults = λ m. option_map_or (λ (log : LogState D). faults log.disk) (log_of logs m) (yard.faults m);
}

-- why the log of a member was not mounted, from a disk that told so and tells so now, while the count of its
-- faults went so
abbrev pub WasRefused : ℕ → Option Told → Option Told → ℕ → ℕ → Stop → Type 0
WasRefused member told now before after OutOfMemory = after ≡ before
WasRefused member told now before after (DiskFault m) = (m ≡ member) × Rose before after
WasRefused member told now before after (Damaged m at) =
    (m ≡ member) × IfSome told (ReadsDamaged at) × (now ≡ added Sync told) × (after ≡ before)
WasRefused member told now before after stop = ⊥

-- the disk of one of the first n members failed as it was to be mounted behind those below it; those above it
-- are as they were
pub record IsKeptBack (n missing : ℕ) (before after : YardState) (member : ℕ) : Type 0 where
  pub below : member < n
  pub there : has missing member ≡ false
  pub rose : Rose (before.faults member) (after.faults member)
  pub contents : List (Option OnLog)
  pub found : AreFound member missing before contents
  pub above : (m : ℕ) → member < m → (after.told m ≡ before.told m) × (after.faults m ≡ before.faults m)

-- why the logs of the first n members that are not missing were not all mounted, but those of the first k
abbrev pub WereRefused : ℕ → ℕ → ℕ → YardState → YardState → Stop → Type 0
WereRefused n missing k before after OutOfMemory = (k < n) × ((j : ℕ) → k < j → after.told j ≡ before.told j)
    × ((j : ℕ) → k ≤ j → after.faults j ≡ before.faults j)
WereRefused n missing k before after (DiskFault m) = (m ≡ k) × IsKeptBack n missing before after m
WereRefused n missing k before after (Damaged m at) = (m ≡ k) × HasDamaged n missing before after m at
    × ((j : ℕ) → k ≤ j → after.faults j ≡ before.faults j)
WereRefused n missing k before after stop = ⊥
