pub mod Standing
pub mod State
pub mod Appending
pub mod Kept
pub mod Grouping
pub mod Voting
pub mod Shelved
