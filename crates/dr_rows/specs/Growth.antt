-- How words grow.
use Rattle.std.specs.Prelude.{◌≡◌, ℕ, ◌≤◌, true, false}
use Rattle.dr_rows.specs.Words.{Words, row_of, seen, is_frozen, changed}

-- the group and the own member are the same, no word fell, and a frozen row stays frozen and as it was
pub record RowsGrew (old new : Words) : Type 0 where
  pub members : new.members ≡ old.members
  pub columns : new.columns ≡ old.columns
  pub me : new.me ≡ old.me
  pub rise : (i c : ℕ) → seen old i c ≤ seen new i c
  pub stay : (i : ℕ) → is_frozen old i ≡ true → is_frozen new i ≡ true
  pub still : (i : ℕ) → is_frozen old i ≡ true → row_of new.words i ≡ row_of old.words i

-- all words are 0, no row is frozen, and no own word differs from the one last pushed
pub record IsFresh (w : Words) : Type 0 where
  pub zero : (i c : ℕ) → seen w i c ≡ 0
  pub unfrozen : (i : ℕ) → is_frozen w i ≡ false
  pub unchanged : (j c : ℕ) → changed w j c ≡ false
