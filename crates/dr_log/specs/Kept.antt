-- What is true of every log.
use Rattle.std.specs.Prelude.{◌≡◌, ℕ, ◌+◌, ◌*◌, ◌<◌, ◌≤◌, Bool, false, List, Option, IfSome, length}
use Rattle.dr_entry.specs.declared.record.Record.{Record}
use Rattle.dr_disk.specs.{Calls.at_rest, Disk.{Told, state_of, content_of}}
use Rattle.dr_log.specs.{Shelved.{HasPlaces, Shelved}, Standing.least_length, declared.spares.Spares.Spares}
use Rattle.dr_log_bytes.specs.{Content.{OnLog, content_after, empty_of}, Grammar.IsLog}

-- the disk is at rest, and reads as a log on which this is
pub record IsSettled (c : OnLog) (t : Told) : Type 0 where
  pub rests : state_of t ≡ at_rest (content_of t)
  pub newer : Bool
  pub records : List Record
  pub log : IsLog (content_of t) newer records
  -- one of the older format is never so short that it would be taken for a new one
  pub whole : newer ≡ false → 9 < length (content_of t)
  pub content : content_after (empty_of newer) records ≡ c

-- the disk is settled where it tells and no append failed, the log is long enough for what is on it, and there is
-- room for the spares
pub record IsKept (told : Option Told) (room_calls room_bytes : ℕ) (held : Shelved) (spares : Spares)
    (failed : Bool) : Type 0 where
  pub settled : failed ≡ false → IfSome told (IsSettled held.content)
  pub long : least_length held.content ≤ held.content.length
  pub calls : 4 * (spares.entries + spares.votes + spares.others) ≤ room_calls
  pub bytes : 74 * (spares.entries + spares.votes + spares.others) ≤ room_bytes
  pub places : HasPlaces held spares
