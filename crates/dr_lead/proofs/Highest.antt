-- The search for the row with the highest tag, row by row.
use Rattle.std.proofs.Common.{◌≡◌, ℕ, ◌<◌, ◌≤◌, true, Option, MatchOption}
use Rattle.dr_history.specs.Members.{has}
use Rattle.dr_rows.specs.Words.{Words}
use Rattle.dr_lead.specs.Accepts.{tag_of}

-- the row has this tag, and those below it have lower ones
pub record IsFirstWith (rows : Words) (of most i : ℕ) : Type 0 where
  pub member : has of i ≡ true
  pub tagged : 0 < most
  pub tag : tag_of rows i ≡ most
  pub first : (j : ℕ) → j < i → has of j ≡ true → tag_of rows j < most

-- the search has come to this row: of the rows below it none has a higher tag than the highest so far, and
-- the first that has it was found
pub record IsHighestTo (rows : Words) (of row most : ℕ) (highest : Option ℕ) : Type 0 where
  pub below : (j : ℕ) → j < row → has of j ≡ true → tag_of rows j ≤ most
  pub found : MatchOption highest (most ≡ 0) (IsFirstWith rows of most)
