-- What stands in the bytes of a log at a place where a gate should be.
use Rattle.std.specs.Prelude.{◌≡◌, ◌≢◌, ⊤, ℕ, ◌+◌, ◌<◌, List, [], ◌∷◌, length, drop, slice_index}
use Rattle.dr_entry.specs.declared.record.Record as records
use Rattle.dr_entry.specs.Spelling.{Spells}
use Rattle.dr_log_bytes.specs.declared.block.Block.{Block, TheVariants.{Record, Closed, Broken}}

-- here stands no gate, or an open one with no record behind it
abbrev pub HasNoRecord : List ℕ → Type 0
HasNoRecord [] = ⊤
HasNoRecord (gate ∷ rest) = (gate ≡ 1) × ((r : records.Record) (n : ℕ) → Spells rest r n → ⊥)

-- an open gate with a record of this length behind it, a closed one, or neither
abbrev pub IsBlockAt : List ℕ → ℕ → Block → Type 0
IsBlockAt bytes at (Record r n) =
    (at < length bytes) × (slice_index bytes at ≡ 1) × Spells (drop (at + 1) bytes) r n
IsBlockAt bytes at Closed = (at < length bytes) × (slice_index bytes at ≢ 1)
IsBlockAt bytes at Broken = HasNoRecord (drop at bytes)
