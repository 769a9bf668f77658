-- Texts behind one another.
use Rattle.std.proofs.Common.{◌≡◌, ℕ, ◌+◌, List, [], ◌∷◌, ◌++◌, take, refl, string_bytes}
use Rattle.std.proofs.lemmas.{Grind.flat_map-append, List.append-nil}
use Rattle.dr_text.specs.{Pieces.pieces_text, declared.pieces.Piece.Piece}

-- one piece more
pub piece_more : (lines : List ℕ) (old new : List Piece) (p : Piece) (own front : List ℕ)
    → new ≡ old ++ p ∷ [] → string_bytes p.own ≡ own → take p.count lines ≡ front
    → pieces_text lines new ≡ pieces_text lines old ++ (own ++ front)
piece_more lines old new p own front added is first = rw (added, flat_map-append, is, first, append-nil) refl
