mod Passing
mod Votes
mod Crashes
mod Dues
mod Judging
mod Answers
mod Indices
mod Ready
mod Moves
mod Joins
mod Letters
mod Sweeps
pub mod Alone
mod Fates
pub mod Deeds
