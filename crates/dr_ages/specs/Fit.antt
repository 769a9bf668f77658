-- Disks on which nothing stands but what runs of a script have left, whatever a crash has left of them.
use Rattle.std.specs.Prelude.{◌≡◌, ℕ, ◌<◌, List, [], length, slice_get, IsSomeAnd, Some}
use Rattle.dr_disk.specs.{Disk.{Told, state_of}, Images.{AllImages, IsImage}}
use Rattle.dr_entry.specs.declared.entry.Entry.{Entry}
use Rattle.dr_opening.specs.{Accepted.AreAccepted, Lists.as_lists}
use Rattle.dr_log_bytes.specs.{Content.OnLog, Grammar.StandFor}
use Rattle.dr_quorum_laws.specs.Lasting.{AreLasting}
use Rattle.dr_restart.specs.{Left.entries_on_logs, declared.lists.LogLists.LogLists}
use Rattle.dr_script.specs.declared.script.Script.{Script}
use Rattle.dr_yard.specs.Yards.{YardState}

-- bytes stand for something
abbrev pub IsReadable : List ℕ → Type 0
IsReadable bytes = (c : OnLog) × StandFor bytes c

-- the disks of the first n members tell, and whatever a crash leaves of each of them is a log
abbrev pub AreReadable : ℕ → YardState → Type 0
AreReadable n yard = (m : ℕ) → m < n → IsSomeAnd (yard.told m) (λ t. AllImages (state_of t) IsReadable)

-- a crash may leave of a disk that tells this a log with these lists
pub record MayLeave (log : LogLists) (t : Told) : Type 0 where
  pub image : List ℕ
  pub is : IsImage (state_of t) image
  pub content : OnLog
  pub stands : StandFor image content
  pub lists : as_lists content ≡ log

-- crashes may leave of the disks of the first n members logs with these lists, by number: one image was
-- chosen of each disk, whichever
pub record AreChosen (n : ℕ) (yard : YardState) (logs : List LogLists) : Type 0 where
  pub all : length logs ≡ n
  pub each : (m : ℕ) (log : LogLists) → slice_get logs m ≡ Some log → IsSomeAnd (yard.told m) (MayLeave log)

-- Entries last on disks, which tell: whatever a crash leaves of each of them is a log, and on the logs that crashes
-- may leave of them nothing stands but what tries and ages of the script have left, and the entries last.
pub record AreLastingOn (script : Script) (es : List Entry) (yard : YardState) : Type 0 where
  pub readable : AreReadable script.members yard
  pub lasting : (logs : List LogLists) → AreChosen script.members yard logs → AreLasting script es logs

-- Disks are fit for a script on whose logs nothing stands but what its tries and ages have left.
abbrev pub AreFit : Script → YardState → Type 0
AreFit script yard = AreLastingOn script [] yard

-- Disks are in step for a script where they tell, whatever a crash leaves of each of them is a log, and logs that
-- crashes may leave of them are accepted.
pub record AreInStep (script : Script) (yard : YardState) : Type 0 where
  pub readable : AreReadable script.members yard
  pub accepted : (logs : List LogLists) → AreChosen script.members yard logs
      → AreAccepted script (entries_on_logs logs)
