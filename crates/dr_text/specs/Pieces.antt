-- A text in pieces, which share lines.
use Rattle.std.specs.{List.flat_map, Prelude.{ℕ, List, ◌++◌, string_bytes, take}}
use Rattle.dr_text.specs.declared.pieces.Piece.{Piece}

-- a piece: its own bytes, and behind them the first of the shared lines
abbrev pub piece_text : List ℕ → Piece → List ℕ
piece_text lines p = string_bytes p.own ++ take p.count lines

-- pieces behind one another
abbrev pub pieces_text : List ℕ → List Piece → List ℕ
pieces_text lines pieces = flat_map (piece_text lines) pieces
