-- The rows that a member of a group holds.
use Rattle.std.specs.Prelude.{◌≡◌, ℕ, ◌≤◌}
use Rattle.dr_entry.specs.declared.limits.TheConstants.{MAX_MEMBERS}
use Rattle.dr_words.specs.{Columns.columns_of, Form.AllInForm, Grown.Grown, Shapes.HasShape}
use Rattle.dr_words.specs.declared.shape.Shape.{Shape}
use Rattle.dr_rows.specs.Words.{Words}

-- the rows of a group: of 1 to `MAX_MEMBERS` members, with the columns of a window of 1 to 8 slots, and
-- with all words in form
pub record IsOfGroup (rows : Words) : Type 0 where
  pub window : ℕ
  pub some_member : 1 ≤ rows.members
  pub most_members : rows.members ≤ MAX_MEMBERS
  pub some_slot : 1 ≤ window
  pub most_slots : window ≤ 8
  pub columns : rows.columns ≡ columns_of rows.members window
  pub form : AllInForm rows.members rows.words

-- the rows of the group of this shape, with all words in form
pub record IsOfShape (s : Shape) (rows : Words) : Type 0 where
  pub shape : HasShape s rows
  pub form : AllInForm rows.members rows.words

-- the rows of a member have grown
pub record RowsGrown (old new : Words) : Type 0 where
  pub members : new.members ≡ old.members
  pub grown : Grown old.members old.words new.words old.frozen new.frozen
