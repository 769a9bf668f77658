-- How the vectors of `Rows` hold the words.
use Rattle.std.specs.{List.range_with_len, Prelude.{◌≡◌, ℕ, ◌+◌, ◌*◌, List, length, map, slice_index}}
use Rattle.dr_rows.specs.{Words.{Words, IsWords, row_of}, declared.rows.Rows.TheInside.Inside}

-- the rows whose words stand in a vector, each where its row and its column say
unfoldable pub rows_at : (ℕ → ℕ → ℕ) → ℕ → ℕ → List ℕ → List (List ℕ)
rows_at place n k flat = map (λ i. map (λ c. slice_index flat (place i c)) (range_with_len 0 k))
    (range_with_len 0 n)

-- one row after another, of so many columns, and one column after another, of so many rows
abbrev pub by_row : ℕ → ℕ → ℕ → ℕ
by_row k i c = i * k + c

abbrev pub by_column : ℕ → ℕ → ℕ → ℕ
by_column n i c = c * n + i

-- the words that the fields mean
abbrev pub rows_inside : Inside → Words
rows_inside a = record {
  members = a.members;
  columns = a.columns;
  me = a.me;
  words = rows_at (by_column a.members) a.members a.columns a.words.items;
  sent = rows_at (by_row a.columns) a.members a.columns a.sent.items;
  frozen = a.frozen.items;
}

-- the words have their form, the vectors one place for each, and the own row is kept beside them
pub record IsInsideRows (a : Inside) : Type 0 where
  pub form : IsWords (rows_inside a)
  pub own : a.own.items ≡ row_of (rows_inside a).words a.me
  pub words : length a.words.items ≡ a.members * a.columns
  pub sent : length a.sent.items ≡ a.members * a.columns
