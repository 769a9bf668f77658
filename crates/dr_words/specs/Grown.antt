-- What it is for words and rows to have grown.
use Rattle.std.specs.Prelude.{◌≡◌, ℕ, ◌<◌, ◌≤◌, Bool, true, false, List, slice_index_or}
use Rattle.dr_words.specs.{Columns.recv_column, Masks.IsPartOf, Packing.is_final, Rows.{row_of, word_at}}
use Rattle.dr_words.specs.declared.column.TheConstants.{SUSPECTED_COLUMN}

-- a word of this column is as before or has grown, in the sense of its column
pub record HasGrown (members column old new : ℕ) : Type 0 where
  -- no word falls, read as a number
  pub number : old ≤ new
  -- who is suspected stays suspected
  pub suspected : column ≡ SUSPECTED_COLUMN → IsPartOf old new
  -- a final count of received items stays
  pub final : (s : ℕ) → s < members → column ≡ recv_column s → is_final old ≡ true → new ≡ old

-- rows have grown, of which some were frozen before, and some are now
pub record Grown (members : ℕ) (old new : List (List ℕ))
    (were_frozen are_frozen : List Bool) : Type 0 where
  -- each word is as before or has grown
  pub words : (row column : ℕ) → HasGrown members column (word_at old row column) (word_at new row column)
  -- a frozen row stays frozen
  pub frozen : (row : ℕ) → slice_index_or were_frozen row false ≡ true
      → slice_index_or are_frozen row false ≡ true
  -- and each of its words is as before
  pub still : (row : ℕ) → slice_index_or were_frozen row false ≡ true
      → row_of new row ≡ row_of old row
