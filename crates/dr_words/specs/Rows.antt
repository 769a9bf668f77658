-- Rows of words, one for each member by number, and the words in them.
pub use Rattle.dr_rows.specs.Words.{row_of, word_at}
