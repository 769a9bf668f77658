-- What an append has come to, and a vote for an age, which is one append or two.
use Rattle.std.specs.Prelude.{◌≡◌, ◌⊎◌, ℕ, ◌≤◌, true, false, [], ◌∷◌, Option, Result, OnOk, IsErr, IsErrOf, IsOk}
use Rattle.dr_entry.specs.declared.record.{AgeVote.AgeVote, Record.Record}
use Rattle.dr_entry.specs.declared.record.Record.TheVariants as records
use Rattle.dr_io.specs.Faults.{Rose}
use Rattle.dr_disk.specs.{Disk.Told, Images.{Goes, IsLeft, Lasts}}
use Rattle.dr_log.specs.{Grouping.{added_all, group}, Standing.{HasAllOf, IsBeforeOrAfter, LosesNone}}
use Rattle.dr_log.specs.{State.{KeepsLimit, LogState, appended, broken_off}, declared.fault.LogFault.LogFault}
use Rattle.dr_log.specs.declared.fault.LogFault.TheVariants.{DiskFault, LogFull}
use Rattle.dr_log_bytes.specs.{Content.{OnLog, block_length, with_record}, Grammar.StandFor}

-- a record was appended to a log, with this answer: all that an append promises
pub record WasAppended {D T : Type 0} (told : D → Option Told) (faults : D → ℕ) (old new : LogState D)
    (r : Record) (result : Result T LogFault) : Type 0 where
  pub ok : OnOk result (new ≡ appended old r new.disk)
  pub fault : IsErrOf result DiskFault → new ≡ broken_off old r new.disk
  pub full : (len : ℕ) → IsErrOf result (LogFull len) → new ≡ old
  pub limit : KeepsLimit old.limit old.content.length (block_length r) result
  pub any_moment : Goes (told old.disk) (told new.disk) (λ s. IsBeforeOrAfter old.content r)
  pub lasting : (first : OnLog)
      → (HasAllOf first old.content → HasAllOf first (with_record r old.content))
      → Lasts (told old.disk) (told new.disk) (LosesNone first)
  pub durable : OnOk result (IsLeft (told new.disk) (λ image. StandFor image new.content))
  pub calls : OnOk result (told new.disk ≡ added_all (group old.content.length (r ∷ [])) (told old.disk))
  pub calm : OnOk result (faults new.disk ≡ faults old.disk)
  pub cause : IsErrOf result DiskFault → Rose (faults old.disk) (faults new.disk)
  pub later : faults old.disk ≤ faults new.disk

-- a log was made one of the newer format: as it was, or by an upgrade that was appended with this answer
abbrev pub WasUpgraded : {D T : Type 0} → (D → Option Told) → (D → ℕ) → LogState D → LogState D
    → Result T LogFault → Type 0
WasUpgraded told faults old new result =
    ((old.content.newer ≡ true) × (new ≡ old) × (IsErr result → ⊥))
    ⊎ ((old.content.newer ≡ false) × WasAppended told faults old new records.Upgrade result)

-- A vote for an age was appended, with this answer, once the log was one of the newer format; or the upgrade was
-- refused so.
abbrev pub HasVotedAge : {D T : Type 0} → (D → Option Told) → (D → ℕ) → LogState D → LogState D → AgeVote
    → Result T LogFault → Type 0
HasVotedAge {D} told faults old new vote result =
    ((mid : LogState D) × (done : Result (Unit {0}) LogFault) × IsOk done × WasUpgraded told faults old mid done
    × WasAppended told faults mid new (records.AgeVote vote) result)
    ⊎ (IsErr result × WasUpgraded told faults old new result)
