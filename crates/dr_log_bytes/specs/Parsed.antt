-- How far the bytes of a log are read.
use Rattle.std.specs.Prelude.{◌≡◌, ℕ, ◌+◌, ◌≤◌, Bool, List, ◌++◌, length, drop}
use Rattle.dr_entry.specs.declared.record.Record.{Record}
use Rattle.dr_log_bytes.specs.Content.{ArePlaced, OnLog, content_after, empty_of}
use Rattle.dr_log_bytes.specs.Grammar.{AreSpelled, blocks, magic_of}

-- the blocks of these records end at this place
pub record IsReadTo (bytes : List ℕ) (newer : Bool) (records : List Record) (at : ℕ) : Type 0 where
  pub spelled : AreSpelled records
  pub placed : ArePlaced (empty_of newer) records
  pub parts : bytes ≡ magic_of newer ++ (blocks records ++ drop at bytes)
  pub place : at ≡ 8 + length (blocks records)
  pub inside : at ≤ length bytes

-- the blocks of records that make this do
pub record IsParsed (bytes : List ℕ) (c : OnLog) (at : ℕ) : Type 0 where
  pub newer : Bool
  pub records : List Record
  pub read : IsReadTo bytes newer records at
  pub content : content_after (empty_of newer) records ≡ c
