-- Rows that are taken whole: the looks, or the pushes, of one row, one column after the other.
use Rattle.std.specs.{List.range_with_len, Prelude.{ℕ, ◌+◌, if◌then◌else◌, List, fold, slice_index, slice_set}}
use Rattle.dr_rows.specs.Words.{Words, changed, looked, own, pushed}

-- the words after a look at a column of row i, whose word stands in a table so far behind this index
abbrev pub with_look : ℕ → List ℕ → ℕ → Words → ℕ → Words
with_look i table first w c = looked w i c (slice_index table (first + c))

-- and after looks at n columns, from column c on
abbrev pub looked_along : ℕ → List ℕ → ℕ → Words → ℕ → ℕ → Words
looked_along i table first w c n = fold (with_look i table first) w (range_with_len c n)

-- the words of a member, those of the table that it pushes to, and how many pushes it has done
pub record Pushes : Type 0 where
  pub words : Words
  pub table : List ℕ
  pub count : ℕ

-- what they are after the push of a column to member j, whose copy of the own row begins in the table at this
-- index: a push of a word that has not changed is none
abbrev pub with_push : ℕ → ℕ → Pushes → ℕ → Pushes
with_push j first s c =
    if changed s.words j c then record {
      words = pushed s.words j c;
      table = slice_set s.table (first + c) (own s.words c);
      count = s.count + 1;
    } else s

-- and after those of n columns, from column c on
abbrev pub pushed_along : ℕ → ℕ → Pushes → ℕ → ℕ → Pushes
pushed_along j first s c n = fold (with_push j first) s (range_with_len c n)
