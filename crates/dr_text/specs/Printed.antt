-- Lines that are printed once for several members.
use Rattle.std.specs.{List.flat_map, Prelude.{ℕ, ◌≡◌, ◌+◌, ◌≤◌, List, length, take, get_or}}
use Rattle.dr_entry.specs.declared.entry.Entry.{Entry}
use Rattle.dr_text.specs.Report.{entry_text}

-- the lines of the first `count` entries
abbrev pub lines : List Entry → ℕ → List ℕ
lines entries count = flat_map entry_text (take count entries)

-- the text is the lines of the first `count` entries, and the ends say where the lines of none of
-- them end, of one, and so on
pub record ArePrinted (entries : List Entry) (count : ℕ) (text ends : List ℕ) : Type 0 where
  pub printed : text ≡ lines entries count
  pub many : length ends ≡ count + 1
  pub each : (i : ℕ) → i ≤ count → get_or ends i 0 ≡ length (lines entries i)
