-- A log that is cut back to what it and a start have in common.
use Rattle.std.specs.Prelude.{◌≡◌, ◌⊎◌, ℕ, List, take, Option, Result, IsOk}
use Rattle.dr_disk.specs.Disk.{Told}
use Rattle.dr_entry.specs.declared.entry.Entry.{Entry}
use Rattle.dr_entry.specs.declared.record.Record.TheVariants as records
use Rattle.dr_history.specs.History.{IsPrefixOf}
use Rattle.dr_log.specs.{State.LogState, Voting.WasAppended, declared.fault.LogFault.LogFault}
use Rattle.dr_log_bytes.specs.Content.{OnLog}
use Rattle.dr_restart.specs.Trying.{BeginsWithCommon}

-- the entries are those that two lists have in common at their beginnings, all of them
pub record IsCommonFront (g h es : List Entry) : Type 0 where
  pub of_one : IsPrefixOf es g
  pub of_other : IsPrefixOf es h
  pub longest : BeginsWithCommon g h es

-- A cut is due where the entries of a log are no prefix of these: it keeps what they have in common.
pub record IsCutDue (entries : List Entry) (c : OnLog) (keep : ℕ) : Type 0 where
  pub beside : IsPrefixOf c.entries entries → ⊥
  pub common : IsCommonFront c.entries entries (take keep c.entries)

-- A log was cut back to these entries: where its own are a prefix of them it is as it was, and otherwise the cut
-- that is due was appended, with this answer.
abbrev pub WasCutBack : {D T : Type 0} → (D → Option Told) → (D → ℕ) → List Entry → LogState D → LogState D
    → Result T LogFault → Type 0
WasCutBack told faults entries old new result =
    (IsPrefixOf old.content.entries entries × (new ≡ old) × IsOk result)
    ⊎ ((keep : ℕ) × IsCutDue entries old.content keep
    × WasAppended told faults old new (records.Cut keep) result)
