mod Along
mod Between
pub mod Completeness
mod DoneWords
mod Rings
mod Rounds
pub mod Scripts
mod Takes
mod Turns
pub mod Enough
