pub mod Grids
mod FlatRows
pub mod WordsLemmas
pub mod Rewrites
mod Vectors
pub mod Along
pub mod RowWords
