-- What becomes of the disks of a yard while a run goes on.
use Rattle.std.specs.Prelude.{◌≡◌, ℕ, ◌<◌, ◌≤◌, All, false, true, List, Option, IfSome, is_some}
use Rattle.dr_disk.specs.{Disk.Told, Images.{Goes, IsLeft}}
use Rattle.dr_entry.specs.declared.entry.Entry.{Entry}
use Rattle.dr_history.specs.{History.IsPrefixOf, Members.has}
use Rattle.dr_log.specs.{Appending.IsMounted, Standing.{HasAllOf, KeepsRecords, LosesNone}}
use Rattle.dr_log_bytes.specs.{Content.OnLog, Grammar.StandFor}
use Rattle.dr_yard.specs.Yards.{YardState}
use Rattle.dr_ages.specs.Found.{ReadsAs}

-- each of these starts begins with the entries
abbrev pub AllBeginWith : List Entry → List (List Entry) → Type 0
AllBeginWith es starts = All (λ (start : List Entry). IsPrefixOf es start) starts

-- bytes are no log: there is nothing that they stand for
abbrev pub IsUnreadable : List ℕ → Type 0
IsUnreadable bytes = (c : OnLog) → StandFor bytes c → ⊥

-- a disk that told so, and had counted so many faults, goes on telling or not telling, and counts no fewer;
-- these are the entries of the starts that were chosen since
pub record GoesOn (starts : List (List Entry)) (told : Option Told) (count : ℕ) (now : Option Told) (faults : ℕ)
    : Type 0 where
  pub tells : is_some told ≡ is_some now
  pub later : count ≤ faults
  -- what no crash would have lost on it before, none would have lost at any moment since, but for entries that
  -- one of the starts lacks
  pub stays : (first : OnLog) → AllBeginWith first.entries starts → IsLeft told (LosesNone first)
      → Goes told now (λ s. LosesNone first)
  -- and where no crash would have left a log, none would have left one since
  pub unread : IsLeft told IsUnreadable → Goes told now (λ s. IsUnreadable)

-- so does each disk of a yard: none has lost anything but entries that one of the starts lacks
abbrev pub PassOn : List (List Entry) → YardState → YardState → Type 0
PassOn starts before after =
    (m : ℕ) → GoesOn starts (before.told m) (before.faults m) (after.told m) (after.faults m)

-- the disks of the missing are as they were
abbrev pub AreUntouched : ℕ → YardState → YardState → Type 0
AreUntouched missing before after = (m : ℕ) → has missing m ≡ true
    → (after.told m ≡ before.told m) × (after.faults m ≡ before.faults m)

-- A disk was mounted, by the calls that a mount makes, when it read as this. At each moment since then whatever a
-- crash leaves of it is a log that has all of it, but for entries that one of the starts lacks.
pub record IsKeptSince (starts : List (List Entry)) (before after : Option Told) : Type 0 where
  pub content : OnLog
  pub found : IfSome before (ReadsAs content)
  pub mounted : Option Told
  pub by : IsMounted before mounted
  pub since : (first : OnLog) → HasAllOf first content → AllBeginWith first.entries starts
      → Goes mounted after (λ s. LosesNone first)

-- The disks of the first members of a group that are not missing were mounted, up to that number, and kept since.
-- The others were not: at each moment a crash would have left of them what it might have left before, as far as
-- records go.
pub record AreKeptSince (members missing mounted : ℕ) (starts : List (List Entry)) (before after : YardState)
    : Type 0 where
  pub kept : (m : ℕ) → m < mounted → has missing m ≡ false → IsKeptSince starts (before.told m) (after.told m)
  pub others : (m : ℕ) → mounted ≤ m → m < members → Goes (before.told m) (after.told m) KeepsRecords
