-- The table of a group: for each bank, copy and row, in this order, the words of the row.
use Rattle.std.specs.Prelude.{ℕ, ◌+◌, ◌*◌}
use Rattle.dr_words.specs.Columns.{columns_of}

-- how many words the table has, for a roster of so many members, a window of so many slots, and so many banks
abbrev pub words_of : ℕ → ℕ → ℕ → ℕ
words_of members window banks = banks * members * members * columns_of members window

-- the index of the word in a bank, copy, row and column
abbrev pub word_index_of : ℕ → ℕ → ℕ → ℕ → ℕ → ℕ → ℕ
word_index_of members window bank copy row column =
    ((bank * members + copy) * members + row) * columns_of members window + column
