-- What comes of a log that is brought up to a start.
use Rattle.std.specs.Prelude.{◌≡◌, ⊤, ℕ, ◌+◌, ◌<◌, ◌≤◌, false, List, [], ◌∷◌, ◌++◌, length, drop, Option, Result, Ok, Err}
use Rattle.dr_entry.specs.declared.entry.Entry.{Entry, TheVariants.View}
use Rattle.dr_disk.specs.{Disk.Told, Images.Goes}
use Rattle.dr_log.specs.{Grouping.{added_all, group}, Standing.{IsNoneOrAll, as_records, with_entries}}
use Rattle.dr_log.specs.State.{LogState}
use Rattle.dr_served.specs.Served.{IsSafe}
use Rattle.dr_restart.specs.declared.start.Start.{Start}
use Rattle.dr_opening.specs.declared.catching_up.CatchFault.{CatchFault}
use Rattle.dr_opening.specs.declared.catching_up.CatchFault.TheVariants.{OutOfMemory, DiskFault, LogFull}

-- what every log of the age begins with: the start, and View 0 of these members
abbrev pub opened_with : Start → ℕ → List Entry
opened_with start members = start.entries ++ View start.age 0 members ∷ []

-- what a log lacks of a list whose first entries are its own
abbrev pub lacked : {D : Type 0} → LogState D → List Entry → List Entry
lacked log whole = drop (length log.content.entries) whole

-- A log has come to a list whose first entries it had: what it lacked was written behind one gate, and is
-- safe. At each moment a crash would have left none of it, or all.
pub record HasCaughtUp {D : Type 0} (told : D → Option Told) (faults : D → ℕ) (whole : List Entry)
    (old new : LogState D) : Type 0 where
  pub entries : new.content.entries ≡ whole
  pub content : new.content ≡ with_entries (lacked old whole) old.content
  pub limit : new.limit ≡ old.limit
  pub unfailed : new.failed ≡ false
  pub calls : told new.disk ≡ added_all (group old.content.length (as_records (lacked old whole))) (told old.disk)
  pub moments : Goes (told old.disk) (told new.disk)
      (λ s. IsNoneOrAll old.content (lacked old whole))
  pub safe : IsSafe told new
  pub calm : faults new.disk ≡ faults old.disk

-- A log that was to come to a list has what it had. At each moment a crash would have left none of what it
-- lacked, or all.
pub record HasStayed {D : Type 0} (told : D → Option Told) (faults : D → ℕ) (whole : List Entry)
    (old new : LogState D) : Type 0 where
  pub content : new.content ≡ old.content
  pub limit : new.limit ≡ old.limit
  pub moments : Goes (told old.disk) (told new.disk)
      (λ s. IsNoneOrAll old.content (lacked old whole))
  pub later : faults old.disk ≤ faults new.disk

-- no call was made of its disk, and what is on it is safe
pub record IsLeftAlone {D : Type 0} (told : D → Option Told) (faults : D → ℕ) (old new : LogState D)
    : Type 0 where
  pub unfailed : new.failed ≡ false
  pub tells : told new.disk ≡ told old.disk
  pub safe : IsSafe told new
  pub calm : faults new.disk ≡ faults old.disk

-- A log of this length is answered to be full, with its length, exactly where with so many bytes more it would
-- exceed the limit, unless memory was wanting.
abbrev pub FitsOrIsFull : ℕ → ℕ → ℕ → {T : Type 0} → Result T CatchFault → Type 0
FitsOrIsFull limit len size (Ok _) = len + size ≤ limit
FitsOrIsFull limit len size (Err OutOfMemory) = ⊤
FitsOrIsFull limit len size (Err DiskFault) = len + size ≤ limit
FitsOrIsFull limit len size (Err (LogFull at)) = (at ≡ len) × (limit < len + size)
