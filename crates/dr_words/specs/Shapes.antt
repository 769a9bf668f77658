-- Rows of a group of some shape.
use Rattle.std.specs.Prelude.{◌≡◌}
use Rattle.dr_words.specs.{Columns.columns_of, declared.shape.Shape.Shape}
use Rattle.dr_rows.specs.Words.{Words}

-- the rows have the members and the columns of the group of this shape
pub record HasShape (shape : Shape) (w : Words) : Type 0 where
  pub members : w.members ≡ shape.members
  pub columns : w.columns ≡ columns_of shape.members shape.window
