-- What a fresh log is.
use Rattle.std.specs.Prelude.{◌≡◌, ℕ, Bool, true, false, List, [], ◌∷◌, Option, None, Some}
use Rattle.dr_disk.specs.Disk.{Told, content_of}
use Rattle.dr_entry.specs.declared.entry.Entry.TheVariants.{View}
use Rattle.dr_history.specs.Members.{has}
use Rattle.dr_log.specs.State.{LogState}
use Rattle.dr_log_bytes.specs.{Content.empty_of, Grammar.StandFor}
use Rattle.dr_program.specs.Presence.{present_at}
use Rattle.dr_restart.specs.declared.start.Start.{Start}

-- the bytes that a disk reads are a log without a record
abbrev pub HasNoRecord : Told → Type 0
HasNoRecord told = (newer : Bool) × StandFor (content_of told) (empty_of newer)

-- no record is on the log, which may grow to so many bytes, and no append to it has failed
pub record IsEmpty {D : Type 0} (most : ℕ) (log : LogState D) : Type 0 where
  pub entries : log.content.entries ≡ []
  pub votes : log.content.votes ≡ []
  pub age_votes : log.content.age_votes ≡ []
  pub long : log.content.length ≡ 9
  pub limit : log.limit ≡ most
  pub whole : log.failed ≡ false

-- View 0 of the start is on such a log, and nothing else
pub record IsFresh {D : Type 0} (start : Start) (most : ℕ) (log : LogState D) : Type 0 where
  pub entries : log.content.entries ≡ View start.age 0 start.members ∷ []
  pub votes : log.content.votes ≡ []
  pub age_votes : log.content.age_votes ≡ []
  pub long : log.content.length ≡ 16
  pub limit : log.limit ≡ most
  pub whole : log.failed ≡ false

-- what stands at the place of a member as its age begins: a fresh log, or nothing where it is absent
abbrev pub IsFreshAt : {D : Type 0} → Start → ℕ → ℕ → Option (LogState D) → Type 0
IsFreshAt start most m None = ¬ (has start.present m ≡ true)
IsFreshAt start most m (Some log) = (has start.present m ≡ true) × IsFresh start most log

-- each of these logs may grow to so many bytes
abbrev pub HaveLimit : {D : Type 0} → ℕ → List (Option (LogState D)) → Type 0
HaveLimit {D} most logs = (m : ℕ) (log : LogState D) → present_at logs m ≡ Some log → log.limit ≡ most
