-- The last View of a history, read entry by entry.
use Rattle.std.proofs.Common.{ℕ, List, [], Option, None, Some}
use Rattle.dr_commands.specs.DrillLines.{view_line}

-- the line of the View that was read last, if one was
abbrev pub line_by : Option (ℕ × ℕ × ℕ) → List ℕ
line_by None = []
line_by (Some view) = view_line view.0 view.1 view.2
